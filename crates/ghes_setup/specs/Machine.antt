-- The machine that the tables and the settings of a script describe.
use Rattle.std.specs.Prelude.{◌≡◌, ◌<◌, ℕ, Bool, is_some, List, map, length, slice_index_or}
use Rattle.apei_hest.specs.declared.source.Ghes.{Ghes}
use Rattle.ghes_lines.specs.declared.machine.Machine.{Machine}
use Rattle.ghes_lines.specs.declared.machine.Source.{Source}
use Rattle.ghes_nmi.specs.Receive.{receive_seen, receive_of}
use Rattle.ghes_script.specs.Setup.{Setup, setup_of}
use Rattle.ghes_script.specs.Sofar.{start}
use Rattle.ghes_script.specs.Sound.{AreAllowed}
use Rattle.ghes_script.specs.declared.line.Line.{Line}
use Rattle.ghes_script.specs.declared.setup.SourceName.{SourceName}
use Rattle.ghes_setup.specs.Settings.{settings_of, slots_of, contexts_of, server_of, cell_of}

-- the sources as a script names them: by their ids, and whether they are of version 2, which has a read ack register
-- (ACPI 6.5, 18.3.2.8)
abbrev pub name_of : Ghes → SourceName
name_of ghes = record { id = ghes.id; v2 = is_some ghes.ack }

abbrev pub names_of : List Ghes → List SourceName
names_of sources = map name_of sources

-- for what a script of these sources is read, with an injection table or without one
abbrev pub setup_for : List Ghes → Bool → Setup
setup_for sources injection = setup_of (names_of sources) injection

-- lines that a script of these sources may have, with an injection table or without one
abbrev pub AreAllowedFor : List Ghes → List Line → Type 0
AreAllowedFor sources lines = (injection : Bool) × AreAllowed (setup_for sources injection) start lines

-- The source at a position: it is received as its table says, and its context and its read ack register are as the settings say.
pub record IsSourceOf (settings : List Line) (s : ℕ) (ghes : Ghes) (source : Source) : Type 0 where
  pub id : source.id ≡ ghes.id
  pub receive : receive_seen source.receive ≡ receive_of ghes
  pub server : source.server ≡ server_of settings s
  pub cell : source.cell ≡ cell_of settings s

-- the sources of a machine are those, one by one
pub record AreSourcesOf (settings : List Line) (found : List Ghes) (sources : List Source) : Type 0 where
  pub as_many : length sources ≡ length found
  pub each : (s : ℕ) (ghes : Ghes) (source : Source) → s < length sources
      → IsSourceOf settings s (slice_index_or found s ghes) (slice_index_or sources s source)

-- The machine of these enabled sources and the settings of these lines.
pub record IsMachineOf (found : List Ghes) (lines : List Line) (machine : Machine) : Type 0 where
  pub sources : AreSourcesOf (settings_of lines) found machine.sources.items
  pub contexts : machine.contexts ≡ contexts_of (settings_of lines)
  pub slots : machine.slots ≡ slots_of (settings_of lines)

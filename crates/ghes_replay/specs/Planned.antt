-- A replay of lines on the machine that its tables and its settings describe, and the text of its ledger.
use Rattle.std.specs.Prelude.{◌≡◌, ◌≢◌, ℕ, List, map, length, Option, Some, None, option_map}
use Rattle.apei_einj.specs.declared.entry.Entry.{Entry}
use Rattle.apei_hest.specs.declared.source.Ghes.{Ghes}
use Rattle.fw_einj.specs.Machine.{set_up}
use Rattle.fw_map.specs.Map.{IsMapOf, IsRefusedWith}
use Rattle.fw_map.specs.declared.error.FwError.{FwError}
use Rattle.fw_map.specs.declared.error.FwError.TheVariants.{OutOfMemory}
use Rattle.fw_map.specs.declared.map.Map.{Map}
use Rattle.fw_port.specs.Port.{seen, faults_of}
use Rattle.fw_port.specs.declared.port.SourcePort.{SourcePort}
use Rattle.fw_sim.specs.Platform.{IsPlatformOf, machine_in}
use Rattle.fw_sim.specs.declared.platform.Platform.{Platform}
use Rattle.ghes_call.specs.Receive.{AckRuleSeen}
use Rattle.ghes_ledger.specs.Kept.{Kept}
use Rattle.ghes_lines.specs.Machine.{rule_of}
use Rattle.ghes_lines.specs.Run.{IsRun, IsFullAt}
use Rattle.ghes_lines.specs.declared.error.Stop.{Stop}
use Rattle.ghes_lines.specs.declared.error.Stop.TheVariants as stops
use Rattle.ghes_lines.specs.declared.machine.Machine.{Machine}
use Rattle.ghes_lines.specs.declared.machine.Source.{Source}
use Rattle.ghes_replay.specs.declared.exit.Refusal.{Refusal}
use Rattle.ghes_replay.specs.declared.exit.Refusal.TheVariants as refusals
use Rattle.ghes_report.specs.Script.{script_text}
use Rattle.ghes_script.specs.declared.line.Line.{Line}
use Rattle.ghes_setup.specs.Injecting.{InjectingSeen, Injects}
use Rattle.ghes_setup.specs.Machine.{IsMachineOf}
use Rattle.ghes_setup.specs.Settings.{setup_in}

-- There is a machine of these tables: they have a map, and so are refused for want of memory alone (own choice).
pub record HasMachine (found : List Ghes) (injection : Option (List Entry)) : Type 0 where
  pub map : Map
  pub is_map : IsMapOf found injection map
  pub unrefused : (error : FwError) → IsRefusedWith found injection error → error ≡ OutOfMemory

-- how wide the read ack register of a source is, in bits; 0 where it has none (ACPI 6.5, 18.3.2.8)
abbrev pub rule_width : Option AckRuleSeen → ℕ
rule_width None = 0
rule_width (Some rule) = rule.register.width

abbrev pub width_of : Source → ℕ
width_of source = rule_width (rule_of (Some source))

-- how many blocks firmware has raised for a source, and how many of them are acknowledged
abbrev pub raised_of : SourcePort → ℕ
raised_of port = length (seen port).made

abbrev pub acknowledged_of : SourcePort → ℕ
acknowledged_of port = (seen port).acknowledged

-- The text of a ledger of these lines: each source is named by its id, with how many blocks it raised and had acknowledged.
abbrev pub text_of : Machine → List Line → List SourcePort → Kept → List ℕ
text_of machine lines ports kept =
    script_text lines (map (λ source. source.id) machine.sources.items) (map width_of machine.sources.items)
    (map raised_of ports) (map acknowledged_of ports) kept

-- Why the machine that injects starts as it does: it is that of the map of the tables, set up as the settings of the lines say; it
-- injects by the entries of the injection table, and is told of as many sources as the machine has.
pub record IsStart (found : List Ghes) (injection : Option (List Entry)) (lines : List Line) (machine : Machine) (first : InjectingSeen) : Type 0 where
  pub platform : Platform
  pub new : IsPlatformOf found injection platform
  pub sources : first.sources ≡ length machine.sources.items
  pub entries : first.entries ≡ injection
  pub injector : first.machine ≡ option_map (set_up (setup_in lines)) (machine_in platform)

-- The lines were replayed on the machine of these enabled sources, of this injection table, and of the settings among the lines: the
-- ledger is lawful by a history of the lines, which leaves the memory of the sources so; the injections of the lines are those of the
-- machine that injects; and the text is the text of that ledger.
pub record IsReplayOf (found : List Ghes) (injection : Option (List Entry)) (lines : List Line) (ledger : Kept) (text : List ℕ) : Type 0 where
  pub machine : Machine
  pub machine_is : IsMachineOf found lines machine
  pub first : InjectingSeen
  pub start : IsStart found injection lines machine first
  pub last : InjectingSeen
  pub ports : List SourcePort
  pub run : IsRun seen faults_of Injects machine lines first last ports ledger
  pub told : text ≡ text_of machine lines ports ledger

-- The lines of a script make one block more than a machine may have, in the line of this number.
pub record HasTooMany (found : List Ghes) (injection : Option (List Entry)) (lines : List Line) (number : ℕ) : Type 0 where
  pub machine : Machine
  pub machine_is : IsMachineOf found lines machine
  pub first : InjectingSeen
  pub start : IsStart found injection lines machine first
  pub full : IsFullAt seen faults_of Injects machine first lines number

-- the refusal for lines that were not executed to their end
abbrev pub stop_refusal : Stop → Refusal
stop_refusal (stops.Full number) = refusals.Full number
stop_refusal stops.OutOfMemory = refusals.OutOfMemory

-- the refusal for tables of which there is no machine
abbrev pub machine_refusal : FwError → Refusal
machine_refusal OutOfMemory = refusals.OutOfMemory
machine_refusal error = refusals.Platform error

-- why there is no machine of these tables: it is refused, or memory ran out
abbrev pub NoMachine : List Ghes → Option (List Entry) → Refusal → Type 0
NoMachine found injection (refusals.Platform error) = (error ≢ OutOfMemory) × IsRefusedWith found injection error
NoMachine found injection refusals.OutOfMemory = Unit {0}
NoMachine found injection other = ⊥

-- why lines are not replayed: they make a block too many, or memory ran out
abbrev pub NoReplay : List Ghes → Option (List Entry) → List Line → Refusal → Type 0
NoReplay found injection lines (refusals.Full number) = HasTooMany found injection lines number
NoReplay found injection lines refusals.OutOfMemory = Unit {0}
NoReplay found injection lines other = ⊥

-- A run of the lines of a script, from a machine that has made no block.
use Rattle.std.specs.Prelude.{◌≡◌, ◌≤◌, ℕ, false, List, [], ◌∷◌, ◌++◌, map, length, slice_get, Some}
use Rattle.apei_base.specs.Firmware.{Seen}
use Rattle.apei_einj.specs.declared.request.Request.{Request}
use Rattle.ghes_call.specs.Receive.{IsOfSource}
use Rattle.ghes_ledger.specs.History.{Executed, script_end, acts_in, calls_in}
use Rattle.ghes_ledger.specs.Kept.{Kept}
use Rattle.ghes_ledger.specs.Lawful.{IsLawful}
use Rattle.ghes_ledger.specs.Queue.{queue, fails_in}
use Rattle.ghes_nmi.specs.Receive.{receive_seen}
use Rattle.ghes_script.specs.declared.line.Line.{Line}
use Rattle.ghes_desk.specs.Desk.{DeskSeen}
use Rattle.ghes_lines.specs.Follows.{blocks_in, IsTied, Follows}
use Rattle.ghes_lines.specs.Injector.{requests_of, injections_in, Injections}
use Rattle.ghes_lines.specs.Lines.{act_of, MakesBlock}
use Rattle.ghes_lines.specs.declared.injector.Injected.{Injected}
use Rattle.ghes_lines.specs.Machine.{first_cell, plan_of}
use Rattle.ghes_lines.specs.declared.error.Stop.{Stop}
use Rattle.ghes_lines.specs.declared.error.Stop.TheVariants.{Full, OutOfMemory}
use Rattle.ghes_lines.specs.declared.machine.Machine.{Machine}
use Rattle.ghes_lines.specs.declared.machine.Source.{Source}

-- the memory of a source where firmware has raised nothing yet
pub record IsFresh (source : Source) (port : Seen) : Type 0 where
  pub source_is : IsOfSource (receive_seen source.receive) port.layout
  pub made : port.made ≡ []
  pub acknowledged : port.acknowledged ≡ 0
  pub waits : port.waits ≡ false
  pub cell : port.cell ≡ first_cell (Some source)
  pub planned : port.planned ≡ 0

-- the memory of each source of a machine is there, and is so
pub record AreFresh {P : Type 0} (seen : P → Seen) (machine : Machine) (ports : List P) : Type 0 where
  pub as_many : length ports ≡ length machine.sources.items
  pub each : (s : ℕ) (source : Source) (port : P) → slice_get machine.sources.items s ≡ Some source → slice_get ports s ≡ Some port → IsFresh source (seen port)

-- A history of these lines leads to what the replay has and to this state of what makes injections, from another; it has no more blocks
-- than a machine may have.
pub record Leads {P S : Type 0} (seen : P → Seen) (faults : P → ℕ) (does : S → Request → Injected → S → Type 0) (machine : Machine) (first : S) (ports : List P) (desk : DeskSeen) (lines : List Line) (last : S) : Type 0 where
  pub history : List Executed
  pub acts_are : acts_in history ≡ map act_of lines
  pub injected : Injections does first (requests_of lines) (injections_in history) last
  pub most : length (blocks_in history) ≤ 65536
  pub follows : Follows seen faults machine ports desk history

-- The ledger of these lines is lawful by a history, and the memory of each source is what that history leaves. The injections of the lines
-- that were executed are steps from the one state to the other. No more blocks were made than a machine may have.
pub record IsRun {P S : Type 0} (seen : P → Seen) (faults : P → ℕ) (does : S → Request → Injected → S → Type 0) (machine : Machine) (lines : List Line) (first last : S) (ports : List P) (kept : Kept) : Type 0 where
  pub history : List Executed
  pub done : List Line
  pub lawful : IsLawful (plan_of machine) (map act_of lines) kept history
  pub executed : acts_in history ≡ map act_of done ++ script_end ∷ []
  pub injected : Injections does first (requests_of done) (injections_in history) last
  pub most : length (blocks_in history) ≤ 65536
  pub tied : (s : ℕ) (source : Source) (port : P) → slice_get machine.sources.items s ≡ Some source → slice_get ports s ≡ Some port
      → IsTied (plan_of machine) (receive_seen source.receive) s (queue s history) (calls_in history) (fails_in s history) (seen port) (faults port)

-- Lines were executed up to one that makes a block, by a history that has as many blocks as a machine may have.
pub record IsFullAt {P S : Type 0} (seen : P → Seen) (faults : P → ℕ) (does : S → Request → Injected → S → Type 0) (machine : Machine) (first : S) (lines : List Line) (number : ℕ) : Type 0 where
  pub done : List Line
  pub line : Line
  pub rest : List Line
  pub cut : lines ≡ done ++ line ∷ rest
  pub number_is : number ≡ line.number
  pub makes : MakesBlock line.what
  pub last : S
  pub ports : List P
  pub desk : DeskSeen
  pub leads : Leads seen faults does machine first ports desk done last
  pub many : 65536 ≤ length (blocks_in leads.history)

-- why lines were not executed to their end
abbrev pub IsStopOf : {P S : Type 0} → (P → Seen) → (P → ℕ) → (S → Request → Injected → S → Type 0) → Machine → S → List Line → Stop → Type 0
IsStopOf seen faults does machine first lines (Full number) = IsFullAt seen faults does machine first lines number
IsStopOf seen faults does machine first lines OutOfMemory = Unit {0}

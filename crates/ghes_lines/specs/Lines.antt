-- What the lines of a script ask for, what they may ask for, and how a replay goes on by one.
use Rattle.std.specs.Prelude.{◌≡◌, ◌<◌, ◌≤◌, ℕ, List, [], ◌∷◌, length, slice_get, slice_set, Some}
use Rattle.apei_base.specs.Firmware.{Seen, IsRaised}
use Rattle.apei_einj.specs.declared.request.Request.{Request}
use Rattle.ghes_ledger.specs.Asks.{Setting, Clock, Fail, Peek, Asks, Quiet, Makes, Injects, Calls, Runs, Drains}
use Rattle.ghes_ledger.specs.History.{Act, Executed}
use Rattle.ghes_script.specs.declared.line.Line.{Line}
use Rattle.ghes_script.specs.declared.line.What.{What}
use Rattle.ghes_script.specs.declared.line.What.TheVariants as asks
use Rattle.ghes_desk.specs.Desk.{DeskSeen}
use Rattle.ghes_lines.specs.Follows.{blocks_in, Follows}
use Rattle.ghes_lines.specs.Injector.{IsTold}
use Rattle.ghes_lines.specs.declared.injector.Injected.{Injected}
use Rattle.ghes_lines.specs.declared.error.Stop.{Stop}
use Rattle.ghes_lines.specs.declared.error.Stop.TheVariants.{Full, OutOfMemory}
use Rattle.ghes_lines.specs.declared.machine.Machine.{Machine}

-- what a line asks for; settings are told in the plan
abbrev pub asks_of : What → Asks
asks_of (asks.Slots n) = Quiet Setting
asks_of (asks.Contexts n) = Quiet Setting
asks_of (asks.Serve source context) = Quiet Setting
asks_of (asks.AckCell source value) = Quiet Setting
asks_of (asks.Available value) = Quiet Setting
asks_of (asks.Busy n) = Quiet Setting
asks_of (asks.Status n) = Quiet Setting
asks_of (asks.Route class source) = Quiet Setting
asks_of (asks.Clock time) = Quiet (Clock time)
asks_of (asks.Raise source block) = Makes source block
asks_of (asks.Inject request) = Injects
asks_of (asks.Nmi source) = Calls source
asks_of asks.Work = Drains
asks_of (asks.Run n) = Runs n
asks_of (asks.Peek source) = Quiet (Peek source)
asks_of (asks.Fail source n) = Quiet (Fail source)

-- a line with its number
abbrev pub act_of : Line → Act
act_of line = record { number = line.number; asks = asks_of line.what }

-- what a line may ask of a machine: its sources are there, a block has a header and a status
abbrev pub IsAllowed : Machine → What → Type 0
IsAllowed machine (asks.Raise source block) = (source < length machine.sources.items) × IsRaised block
IsAllowed machine (asks.Nmi source) = source < length machine.sources.items
IsAllowed machine (asks.Peek source) = source < length machine.sources.items
IsAllowed machine (asks.Fail source n) = source < length machine.sources.items
IsAllowed machine _ = Unit {0}

-- the memory of one source changed so, and that of no other
pub record IsAt {P : Type 0} (s : ℕ) (ports ports' : List P) (R : P → P → Type 0) : Type 0 where
  pub port : P
  pub port' : P
  pub there : slice_get ports s ≡ Some port
  pub now : ports' ≡ slice_set ports s port'
  pub did : R port port'

-- some history leads to what the replay has
pub record IsLed {P : Type 0} (seen : P → Seen) (faults : P → ℕ) (machine : Machine) (ports : List P) (desk : DeskSeen) : Type 0 where
  pub history : List Executed
  pub follows : Follows seen faults machine ports desk history

-- The history goes on by a line that asks for this; one that made a block found fewer than a machine may have.
pub record GoesOn {P : Type 0} (seen : P → Seen) (faults : P → ℕ) (machine : Machine) (act : Act) (ports : List P) (desk : DeskSeen) (before : List Executed) : Type 0 where
  pub line : Executed
  pub act_is : line.act ≡ act
  pub room : (line.made ≡ [] → ⊥) → length (blocks_in before) < 65536
  pub follows : Follows seen faults machine ports desk (line ∷ before)

-- each history that leads to what the replay had goes on by a line that asks for this
abbrev pub Executes : {P : Type 0} → (P → Seen) → (P → ℕ) → Machine → Act → List P → DeskSeen → List P → DeskSeen → Type 0
Executes seen faults machine act ports desk ports' desk' =
    (before : List Executed) → Follows seen faults machine ports desk before → GoesOn seen faults machine act ports' desk' before

-- the history goes on by a line that asks for this and tells this
pub record GoesOnTelling {P : Type 0} (tells : Executed → Type 0) (seen : P → Seen) (faults : P → ℕ) (machine : Machine) (act : Act) (ports : List P) (desk : DeskSeen) (before : List Executed) : Type 0 where
  pub goes : GoesOn seen faults machine act ports desk before
  pub told : tells goes.line

abbrev pub ExecutesTelling : {P : Type 0} → (Executed → Type 0) → (P → Seen) → (P → ℕ) → Machine → Act → List P → DeskSeen → List P → DeskSeen → Type 0
ExecutesTelling tells seen faults machine act ports desk ports' desk' =
    (before : List Executed) → Follows seen faults machine ports desk before → GoesOnTelling tells seen faults machine act ports' desk' before

-- a line that asks for an injection is a step of what makes them, and tells what it made; no other line is one
abbrev pub InjectsBy : {P S : Type 0} → (P → Seen) → (P → ℕ) → (S → Request → Injected → S → Type 0) → Machine → ℕ → What → S → List P → DeskSeen → S → List P → DeskSeen → Type 0
InjectsBy seen faults does machine number (asks.Inject request) first ports desk last ports' desk' =
    (injected : Injected) × does first request injected last
    × ExecutesTelling (IsTold injected) seen faults machine (record { number = number; asks = Injects }) ports desk ports' desk'
InjectsBy seen faults does machine number _ first ports desk last ports' desk' = last ≡ first

-- a line makes a block, or may make one
abbrev pub MakesBlock : What → Type 0
MakesBlock (asks.Raise source block) = Unit {0}
MakesBlock (asks.Inject request) = Unit {0}
MakesBlock _ = ⊥

-- A line was not executed: memory ran out, or it makes a block, and so many were made before that the machine may have no more.
abbrev pub IsStopAt : Line → ℕ → Stop → Type 0
IsStopAt line blocks (Full number) = (number ≡ line.number) × MakesBlock line.what × (65536 ≤ blocks)
IsStopAt line blocks OutOfMemory = Unit {0}

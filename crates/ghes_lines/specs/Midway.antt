-- A line `run` while it goes: the calls that it made so far, and what they leave.
use Rattle.std.specs.Prelude.{◌≡◌, ℕ, ◌==◌, if◌then◌else◌, Bool, true, false, List, [], ◌∷◌, ◌++◌}
use Rattle.std.specs.List.{AllByRecursion}
use Rattle.apei_base.specs.Firmware.{Seen}
use Rattle.ghes_call.specs.declared.call.Call.{Call}
use Rattle.ghes_ledger.specs.Asks.{Calls}
use Rattle.ghes_ledger.specs.History.{Executed}
use Rattle.ghes_ledger.specs.Plan.{Plan, served}
use Rattle.ghes_ledger.specs.Turns.{Along, IsMadeBy}
use Rattle.ghes_ledger.specs.declared.ledger.Mark.{Mark}
use Rattle.ghes_desk.specs.Call.{stopped_reply}
use Rattle.ghes_desk.specs.Desk.{DeskSeen}
use Rattle.ghes_lines.specs.Follows.{Follows}
use Rattle.ghes_lines.specs.Machine.{plan_of}
use Rattle.ghes_lines.specs.declared.machine.Machine.{Machine}

-- What the calls of a line leave

-- these calls, oldest first, told newest first
abbrev pub in_order : List Call → List Call
in_order [] = []
in_order (call ∷ older) = in_order older ++ call ∷ []

-- a history that goes on by these calls, told newest first, as if each were a line of its own
abbrev pub line_by_line : ℕ → List Executed → List Call → List Executed
line_by_line number before [] = before
line_by_line number before (call ∷ older) =
    record { act = record { number = number; asks = Calls call.source }; made = []; calls = call ∷ []; ends = []; peeks = []; taken = [] }
    ∷ line_by_line number before older

-- a call behind a fatal one of its line, made by the context that serves its source
pub record IsStopped (plan : Plan) (before : List Executed) (call : Call) : Type 0 where
  pub by : IsMadeBy plan before call
  pub reply_is : call.reply ≡ stopped_reply

-- with other calls and marks in the ledger
abbrev pub with_lists : List Call → List Mark → DeskSeen → DeskSeen
with_lists calls marks desk = record desk { ledger = record desk.ledger { calls = calls; marks = marks } }

-- with the pending packets and the panic list of another desk
abbrev pub moved_to : DeskSeen → DeskSeen → DeskSeen
moved_to now desk = record desk { pending = now.pending; ledger = record desk.ledger { panic = now.ledger.panic } }

-- A line began with this desk behind this history, and made these calls so far. Up to a fatal block they leave what they would leave as
-- lines of their own, and behind it each is stopped. None of them is entered yet.
pub record IsMidway {P : Type 0} (seen : P → Seen) (faults : P → ℕ) (machine : Machine) (number : ℕ) (before : List Executed) (start : DeskSeen) (ports : List P) (desk : DeskSeen) (calls : List Call) : Type 0 where
  pub made : List Call
  pub stops : List Call
  pub calls_are : calls ≡ in_order (stops ++ made)
  pub stopped : AllByRecursion (IsStopped (plan_of machine) before) stops
  pub running : desk.ledger.panic ≡ [] → stops ≡ []
  pub kept : desk ≡ moved_to desk start
  pub entered : List Call
  pub marks : List Mark
  pub follows : Follows seen faults machine ports (with_lists entered marks desk) (line_by_line number before made)

-- each line that came so far goes on to there
abbrev pub Continues : {P : Type 0} → (P → Seen) → (P → ℕ) → Machine → List P → DeskSeen → List Call → List P → DeskSeen → List Call → Type 0
Continues seen faults machine ports desk calls ports' desk' calls' =
    (number : ℕ) (before : List Executed) (start : DeskSeen) → IsMidway seen faults machine number before start ports desk calls
    → IsMidway seen faults machine number before start ports' desk' calls'

-- some line came so far
pub record IsAmid {P : Type 0} (seen : P → Seen) (faults : P → ℕ) (machine : Machine) (ports : List P) (desk : DeskSeen) (calls : List Call) : Type 0 where
  pub number : ℕ
  pub before : List Executed
  pub start : DeskSeen
  pub midway : IsMidway seen faults machine number before start ports desk calls

-- Which calls a line makes

-- Of calls along these sources these were made, and those along the others are left; none is left where the context has ended its turns.
abbrev pub Ahead : Bool → List ℕ → List ℕ → List Call → Type 0
Ahead true all left calls = Along all calls
Ahead false all left calls = (rest : List Call) → Along left rest → Along all (calls ++ rest)

-- a context made calls more, and so along these sources
pub record IsPart (c : ℕ) (all left : List ℕ) (ended : Bool) (calls calls' : List Call) : Type 0 where
  pub added : List Call
  pub now : calls' ≡ calls ++ added
  pub own : AllByRecursion (λ call. call.context ≡ c) added
  pub ahead : Ahead ended all left added

-- a context called one source, where it serves it
abbrev pub Visits : Plan → ℕ → ℕ → Bool → List Call → List Call → Type 0
Visits plan c s ended calls calls' = (more : List ℕ) → IsPart c (if plan.server s == c then s ∷ more else more) more ended calls calls'

-- a context made one turn
abbrev pub MakesTurn : Plan → ℕ → Bool → List Call → List Call → Type 0
MakesTurn plan c ended calls calls' = (more : List ℕ) → IsPart c (served plan c ++ more) more ended calls calls'

-- A history: the executed lines of a script, the newest first, each with all that came of it.
use Rattle.std.specs.Prelude.{ℕ, ◌==◌, if◌then◌else◌, List, [], ◌∷◌, ◌++◌, length, filter}
use Rattle.std.specs.List.{flat_map}
use Rattle.ghes_call.specs.declared.call.Call.{Call}
use Rattle.ghes_ledger.specs.declared.ledger.Taken.{Taken}
use Rattle.ghes_ledger.specs.declared.ledger.Mark.{Mark}
use Rattle.ghes_ledger.specs.declared.ledger.InjectionEnd.{InjectionEnd}
use Rattle.ghes_ledger.specs.Asks.{Clock, Fail, Asks, Quiet, Ends}
use Rattle.ghes_ledger.specs.Plan.{Plan, all_sources}

-- a line with its number, or the end of a script, whose number is 0
pub record Act : Type 0 where
  pub number : ℕ
  pub asks : Asks

-- the end of a script (own choice)
abbrev pub script_end : Act
script_end = record { number = 0; asks = Ends }

-- a block that firmware made for a source
pub record Made : Type 0 where
  pub source : ℕ
  pub bytes : List ℕ

-- An executed line. Its calls stand by context, and those of a context in the order in which it made them.
pub record Executed : Type 0 where
  pub act : Act
  pub made : List Made
  pub calls : List Call
  pub ends : List InjectionEnd
  pub peeks : List ℕ
  pub taken : List Taken

-- the lines of a history, oldest first (own choice)
abbrev pub acts_in : List Executed → List Act
acts_in [] = []
acts_in (line ∷ before) = acts_in before ++ line.act ∷ []

-- the calls of a history, oldest first (own choice)
abbrev pub calls_in : List Executed → List Call
calls_in [] = []
calls_in (line ∷ before) = calls_in before ++ line.calls

-- the ends of the injections of a history, oldest first (own choice)
abbrev pub ends_in : List Executed → List InjectionEnd
ends_in [] = []
ends_in (line ∷ before) = ends_in before ++ line.ends

-- the ack cells that were looked at in a history, oldest first (own choice)
abbrev pub peeks_in : List Executed → List ℕ
peeks_in [] = []
peeks_in (line ∷ before) = peeks_in before ++ line.peeks

-- the blocks that were taken in a history, oldest first (own choice)
abbrev pub taken_in : List Executed → List Taken
taken_in [] = []
taken_in (line ∷ before) = taken_in before ++ line.taken

-- the calls on a source
abbrev pub on_source : ℕ → List Call → List Call
on_source s calls = filter (λ call. call.source == s) calls

-- the calls of a context
abbrev pub of_context : ℕ → List Call → List Call
of_context c calls = filter (λ call. call.context == c) calls

-- the calls of a line as a ledger keeps them: by source in table order, and those on a source in order
abbrev pub by_source : Plan → List Call → List Call
by_source plan calls = flat_map (λ s. on_source s calls) (all_sources plan)

-- the calls of a history as a ledger keeps them
abbrev pub kept_calls : Plan → List Executed → List Call
kept_calls plan [] = []
kept_calls plan (line ∷ before) = kept_calls plan before ++ by_source plan line.calls

-- the counts after each line
abbrev pub marks_in : Plan → List Executed → List Mark
marks_in plan [] = []
marks_in plan (line ∷ before) =
    marks_in plan before ++ record {
      line = line.act.number;
      calls = length (kept_calls plan (line ∷ before));
      taken = length (taken_in (line ∷ before));
    } ∷ []

-- the time after a line, told the time before it (own choice)
abbrev pub clock_by : Asks → ℕ → ℕ
clock_by (Quiet (Clock time)) before = time
clock_by _ before = before

-- the time after a history, 0 at first (own choice)
abbrev pub clock_after : List Executed → ℕ
clock_after [] = 0
clock_after (line ∷ before) = clock_by line.act.asks (clock_after before)

-- how many accesses of a source are to fail by a line (own choice)
abbrev pub fails_by : ℕ → Asks → ℕ
fails_by s (Quiet (Fail source)) = if source == s then 1 else 0
fails_by s _ = 0

-- P holds of each line, told those before it
abbrev pub Each : (List Executed → Executed → Type 0) → List Executed → Type 0
Each P [] = Unit {0}
Each P (line ∷ before) = Each P before × P before line

-- P holds of each of these calls, told all calls before it
abbrev pub EachCall : (List Call → Call → Type 0) → List Call → List Call → Type 0
EachCall P past [] = Unit {0}
EachCall P past (call ∷ calls) = P past call × EachCall P (past ++ call ∷ []) calls

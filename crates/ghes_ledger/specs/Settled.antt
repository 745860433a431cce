-- How the fates of a source are put in order: each at its block's number.
use Rattle.std.specs.Prelude.{ℕ, ◌+◌, ◌==◌, ◌&&◌, if◌then◌else◌, Bool, List, [], ◌∷◌, ◌++◌, set, replicate, Option, Some, None}
use Rattle.std.specs.List.{flat_map, filter_map}
use Rattle.ghes_call.specs.declared.call.Call.{Call}
use Rattle.ghes_call.specs.declared.call.Outcome.{Outcome}
use Rattle.ghes_call.specs.declared.call.Outcome.TheVariants.{Duplicate}
use Rattle.ghes_ledger.specs.declared.fate.Fate.{Fate}
use Rattle.ghes_ledger.specs.declared.fate.Fate.TheVariants as fates
use Rattle.ghes_ledger.specs.declared.ledger.PanicEntry.{PanicEntry}
use Rattle.ghes_ledger.specs.declared.ledger.Taken.{Taken}
use Rattle.ghes_ledger.specs.declared.ledger.Taken.TheVariants.{Delivered, Dropped}
use Rattle.ghes_ledger.specs.Kept.{Kept}
use Rattle.ghes_ledger.specs.Outcomes.{acknowledges}
use Rattle.ghes_ledger.specs.Queue.{acknowledged}

-- a call acknowledged a block of a source (own choice)
abbrev pub is_acknowledged : ℕ → Call → Bool
is_acknowledged s call = call.source == s && acknowledges call.reply.outcome

-- the number and the fate of the block that an outcome answers Duplicate for (own choice)
abbrev pub numbered_duplicate : Outcome → List (ℕ × Fate)
numbered_duplicate (Duplicate number report) = (number, fates.Duplicate report) ∷ []
numbered_duplicate _ = []

-- the number and the fate that a call gives for a block of a source, if it does (own choice)
abbrev pub numbered_call : ℕ → Call → List (ℕ × Fate)
numbered_call s call = if call.source == s then numbered_duplicate call.reply.outcome else []

-- the number and the fate that a taken block gives for a source (own choice)
abbrev pub numbered_taken : ℕ → Taken → List (ℕ × Fate)
numbered_taken s (Delivered source seq bytes reported) = if source == s then (seq, fates.Delivered) ∷ [] else []
numbered_taken s (Dropped source seq bytes reason) = if source == s then (seq, fates.Dropped reason) ∷ [] else []

-- the number and the fate that a block of the panic list gives for a source (own choice)
abbrev pub numbered_panic : ℕ → PanicEntry → List (ℕ × Fate)
numbered_panic s entry = if entry.source == s then (entry.seq, fates.Panic) ∷ [] else []

-- a table of fates by number, with one more: a number past its end changes nothing (own choice)
abbrev pub put : List (Option Fate) → ℕ × Fate → List (Option Fate)
put table numbered = set table numbered.0 (Some numbered.1)

-- the table with these, one after another (own choice)
abbrev pub filled : List (Option Fate) → List (ℕ × Fate) → List (Option Fate)
filled table [] = table
filled table (numbered ∷ more) = filled (put table numbered) more

-- the numbers and fates of a source's blocks, as the ledger has them (own choice)
abbrev pub numbered_fates : ℕ → Kept → List (ℕ × Fate)
numbered_fates s kept = flat_map (numbered_call s) kept.calls ++ (flat_map (numbered_taken s) kept.taken ++ flat_map (numbered_panic s) kept.panic)

-- the fates of a source in the order of their numbers (own choice)
abbrev pub settled : ℕ → Kept → List Fate
settled s kept = filter_map (λ fate. fate) (filled (replicate (acknowledged s kept.calls + 1) None) (numbered_fates s kept))

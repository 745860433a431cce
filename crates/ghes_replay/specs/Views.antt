-- Results without where their lists lie in memory.
use Rattle.std.specs.Prelude.{ℕ, List, Vec, Option, Result, Ok, Err}
use Rattle.std.specs.declared.alloc.Global.{Global}
use Rattle.ghes_ledger.specs.Kept.{Kept}
use Rattle.ghes_replay.specs.declared.done.Done.{Done}
use Rattle.ghes_replay.specs.declared.exit.Refusal.{Refusal}
use Rattle.ghes_replay.specs.Done.{Output, output}

-- the bytes of a vector, or the refusal
abbrev pub bytes_of : Result (Vec ℕ Global) Refusal → Result (List ℕ) Refusal
bytes_of (Ok bytes) = Ok bytes.items
bytes_of (Err refusal) = Err refusal

-- what was done, by its ledger and its text
abbrev pub output_of : Option Kept → Vec ℕ Global → Output
output_of ledger text = output ledger text.items

-- what was done, or the refusal
abbrev pub done_of : Result Done Refusal → Result Output Refusal
done_of (Ok done) = Ok (output done.ledger done.text.items)
done_of (Err refusal) = Err refusal

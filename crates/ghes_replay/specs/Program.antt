-- How the program exits, by its arguments as the system gives them.
use Rattle.std.specs.Prelude.{◌≡◌, ◌≢◌, ◌⊎◌, ℕ, List, [], ◌∷◌, Vec, String, Result, Ok, Err}
use Rattle.std.specs.declared.alloc.Global.{Global}
use Rattle.std.specs.declared.vec.IntoIter.{IntoIter}
use Rattle.std.specs.declared.io.Error.{Error}
use Rattle.std.specs.declared.io.ErrorKind.TheVariants as kinds
use Rattle.std.specs.Vec.Iter.{into_iter_items}
use Rattle.std.specs.IoError.{error_kind}
use Rattle.ghes_replay.specs.declared.exit.Refusal.{Refusal}
use Rattle.ghes_replay.specs.declared.exit.Refusal.TheVariants as refusals
use Rattle.ghes_notify.specs.Delivery.{Delivery}
use Rattle.ghes_notify.specs.declared.handler.Verdict.{Verdict}
use Rattle.ghes_replay.specs.declared.putting.End.{End}
use Rattle.ghes_replay.specs.declared.run.RunEnd.{RunEnd}
use Rattle.ghes_replay.specs.Run.{EndsWith, EndsBefore}
use Rattle.ghes_replay.specs.Seen.{Outside}

-- all arguments that are still to come, or memory is wanting for them
abbrev pub GivesItems : IntoIter (String Global) Global → Result (Vec (String Global) Global) Refusal → Type 0
GivesItems args (Ok all) = all.items ≡ into_iter_items args
GivesItems args (Err refusal) = refusal ≡ refusals.OutOfMemory

-- the arguments, or why there are none (own choice)
abbrev pub GivesArguments : Result (IntoIter (String Global) Global) Error → Result (Vec (String Global) Global) Refusal → Type 0
GivesArguments (Ok args) (Ok all) = all.items ≡ into_iter_items args
GivesArguments (Ok args) (Err refusal) = refusal ≡ refusals.OutOfMemory
GivesArguments (Err error) (Ok all) = ⊥
GivesArguments (Err error) (Err refusal) =
    (error_kind error ≡ kinds.OutOfMemory → refusal ≡ refusals.OutOfMemory) × (error_kind error ≢ kinds.OutOfMemory → refusal ≡ refusals.Usage)

-- the program exits with the status of a run that ended before it touched a file, with the line of this refusal
abbrev pub ExitsBefore : Refusal → Outside → Outside → ℕ → Type 0
ExitsBefore refusal before after status = (end : End) × EndsBefore refusal before after end × (status ≡ end.status)

-- the program exits with the status of a run on these words with this handler, or memory was wanting for the words or for the list of handlers
abbrev pub ExitsBy : {H : Type 0} → (H → List Delivery → Type 0) → (H → Delivery → Verdict) → (H → List ℕ)
    → List (List ℕ) → Outside → Outside → H → ℕ → Type 0
ExitsBy {H} stands answers closing words before after handler status =
    ((end : RunEnd H) × EndsWith stands answers closing words before after (handler ∷ []) end × (status ≡ end.status))
    ⊎ ExitsBefore refusals.OutOfMemory before after status

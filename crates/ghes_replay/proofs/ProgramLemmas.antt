-- How the program exits, by its arguments.
use Rattle.std.proofs.Common.{◌≡◌, ◌≢◌, ℕ, List, [], ◌∷◌, String, Global, Vec, Result, Ok, Err, IfOk, IfErr, map, drop, inl, inr, sym, subst}
use Rattle.std.specs.declared.io.Error.{Error}
use Rattle.std.specs.declared.io.ErrorKind.TheVariants as kinds
use Rattle.std.specs.IoError.{error_kind}
use Rattle.std.specs.declared.vec.IntoIter.{IntoIter}
use Rattle.std.specs.String.{string_bytes}
use Rattle.std.specs.Vec.Iter.{into_iter_items}
use Rattle.ghes_replay.specs.declared.exit.Refusal.{Refusal}
use Rattle.ghes_replay.specs.declared.exit.Refusal.TheVariants as refusals
use Rattle.ghes_notify.specs.Delivery.{Delivery}
use Rattle.ghes_notify.specs.declared.handler.Verdict.{Verdict}
use Rattle.ghes_replay.specs.declared.putting.End.{End}
use Rattle.ghes_replay.specs.declared.run.RunEnd.{RunEnd}
use Rattle.ghes_replay.specs.Program.{ExitsBefore, ExitsBy, GivesArguments}
use Rattle.ghes_replay.specs.Run.{EndsBefore, EndsWith}
use Rattle.ghes_replay.specs.Seen.{Outside}

-- the words behind the program's name
abbrev pub words_in : List (String Global) → List (List ℕ)
words_in all = map (string_bytes {Z = Global}) (drop 1 all)

-- a run on words with one handler
pub exits_alone : {H : Type 0} (stands : H → List Delivery → Type 0) (answers : H → Delivery → Verdict) (closing : H → List ℕ)
    (words : List (List ℕ)) (before after : Outside) (handler : H) (handlers : List H) (run : RunEnd H) (status : ℕ) → handlers ≡ handler ∷ []
    → EndsWith stands answers closing words before after handlers run → status ≡ run.status
    → ExitsBy stands answers closing words before after handler status
exits_alone {H} stands answers closing words before after handler handlers run status one ends exits =
    let P : List H → Type 0 = λ hs. EndsWith stands answers closing words before after hs run in
    inl (run, subst P one ends, exits)

-- memory was wanting for the list of it
pub exits_short : {H : Type 0} (stands : H → List Delivery → Type 0) (answers : H → Delivery → Verdict) (closing : H → List ℕ)
    (words : List (List ℕ)) (before after : Outside) (handler : H) (refusal : Refusal) (end : End) (status : ℕ) → refusal ≡ refusals.OutOfMemory
    → EndsBefore refusal before after end → status ≡ end.status → ExitsBy stands answers closing words before after handler status
exits_short stands answers closing words before after handler refusal end status memory put exits =
    let P : Refusal → Type 0 = λ r. EndsBefore r before after end in
    inr (end, subst P memory put, exits)

-- a run on the arguments that were given, or none for want of memory
pub exits_by : {H : Type 0} (stands : H → List Delivery → Type 0) (answers : H → Delivery → Verdict) (closing : H → List ℕ)
    (args : Result (IntoIter (String Global) Global) Error) (result : Result (Vec (String Global) Global) Refusal) (before after : Outside)
    (handler : H) (status code : ℕ) → GivesArguments args result
    → IfOk result (λ all. ExitsBy stands answers closing (words_in all.items) before after handler status)
    → IfErr result (λ refusal. ExitsBefore refusal before after status) → code ≡ status
    → IfOk args (λ all. ExitsBy stands answers closing (words_in (into_iter_items all)) before after handler code)
exits_by stands answers closing (Ok args) (Ok all) before after handler status code gives ends refused exits =
    let P : List (String Global) → Type 0 = λ items. ExitsBy stands answers closing (words_in items) before after handler status in
    let Q : ℕ → Type 0 = λ c. ExitsBy stands answers closing (words_in (into_iter_items args)) before after handler c in
    subst Q (sym exits) (subst P gives ends)
exits_by stands answers closing (Ok args) (Err refusal) before after handler status code gives ends refused exits =
    let P : Refusal → Type 0 = λ r. ExitsBefore r before after status in
    let Q : ℕ → Type 0 = λ c. ExitsBefore refusals.OutOfMemory before after c in
    inr (subst Q (sym exits) (subst P gives refused))
exits_by stands answers closing (Err error) result before after handler status code gives ends refused exits = tt

-- a run for want of arguments that are text
pub exits_unread : (args : Result (IntoIter (String Global) Global) Error) (result : Result (Vec (String Global) Global) Refusal)
    (before after : Outside) (status code : ℕ) → GivesArguments args result
    → IfErr result (λ refusal. ExitsBefore refusal before after status) → code ≡ status
    → IfErr args (λ error. error_kind error ≢ kinds.OutOfMemory → ExitsBefore refusals.Usage before after code)
exits_unread (Ok args) result before after status code gives refused exits = tt
exits_unread (Err error) (Ok all) before after status code gives refused exits = absurd gives
exits_unread (Err error) (Err refusal) before after status code gives refused exits = λ other.
    let P : Refusal → Type 0 = λ r. ExitsBefore r before after status in
    let Q : ℕ → Type 0 = λ c. ExitsBefore refusals.Usage before after c in
    subst Q (sym exits) (subst P (gives.1 other) refused)

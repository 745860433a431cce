-- What follows from how a run with handlers ends.
use Rattle.std.proofs.Common.{◌≡◌, ◌<◌, List, ℕ, length, Result, inl, inr, refl, sym, subst}
use Rattle.std.specs.Prelude.{IsTrue}
use Rattle.ghes_notify.specs.Delivery.{Delivery}
use Rattle.ghes_notify.specs.declared.handler.Verdict.{Verdict}
use Rattle.ghes_outside.specs.Outside.{SinkSeen}
use Rattle.ghes_replay.specs.declared.exit.Refusal.{Refusal}
use Rattle.ghes_replay.specs.declared.exit.Refusal.TheVariants as refusals
use Rattle.ghes_replay.specs.declared.putting.End.{End}
use Rattle.ghes_replay.specs.declared.run.RunEnd.{RunEnd}
use Rattle.ghes_replay.specs.Done.{Output, IsDone, TaskCause, done_status}
use Rattle.ghes_replay.specs.Hearing.{AreHeard, Hears, Untold}
use Rattle.ghes_replay.specs.Loading.{CountsFailed}
use Rattle.ghes_replay.specs.Refusal.{refused_name}
use Rattle.ghes_replay.specs.Run.{AreToldOf, AskNothing, EndsBefore, EndsTask, EndsTaskWith, EndsWith, PutsAnswer, PutsHeard, PutsText, PutsWith, RefusedBy, closing_behind, end_of, is_untold_status}
use Rattle.ghes_replay.specs.Seen.{Outside, NoneFailed}
use Rattle.ghes_replay.specs.Task.{Task, IsTask}
use Rattle.ghes_replay.proofs.EndLemmas.{heard_ends, is_done, nobody_told, refused_ends}
use Rattle.ghes_replay.proofs.HearLemmas.{all_back, as_before, closing_heard, heard_put, told_heard}

-- what was heard was put, and the handlers go back
pub heard_with : {H : Type 0} (stands : H → List Delivery → Type 0) (answers : H → Delivery → Verdict) (closing : H → List ℕ)
    (before after : SinkSeen) (done : Output) (old new : List H) (answer : Result Output Refusal) (end : End) (run : RunEnd H)
    → Hears stands answers closing done old new answer → PutsAnswer before after answer end → end_of run ≡ end → run.handlers.items ≡ new
    → PutsWith stands answers closing before after done old run
heard_with {H} stands answers closing before after done old new answer end run (hearing, heard, told) put same back =
    let P : End → Type 0 = λ e. PutsHeard before after done hearing e in
    let Q : List H → Type 0 = λ handlers. AreHeard stands answers closing old handlers hearing in
    (hearing, subst P (sym same) (heard_put before after done answer hearing end told put), subst Q (sym back) heard)

-- a task that was done ends so
pub task_with : {H : Type 0} (stands : H → List Delivery → Type 0) (answers : H → Delivery → Verdict) (closing : H → List ℕ)
    (task : Task) (before after : Outside) (done : Output) (handlers : List H) (run : RunEnd H) → IsDone before.files task done
    → NoneFailed before.files after.files → PutsWith stands answers closing before.out after.out done handlers run
    → EndsTaskWith stands answers closing task before after handlers run
task_with stands answers closing task before after done handlers run is none (hearing, put, heard) =
    (hearing, heard_ends task before after done hearing (end_of run) is none put, heard)

-- a task that was refused ends so, with the handlers as they were
pub refused_with : {H : Type 0} (stands : H → List Delivery → Type 0) (answers : H → Delivery → Verdict) (closing : H → List ℕ)
    (task : Task) (before after : Outside) (refusal : Refusal) (name : List ℕ) (end : End) (handlers : List H) (run : RunEnd H)
    → name ≡ refused_name task refusal → TaskCause before.files after.files task refusal → CountsFailed before.files after.files refusal
    → RefusedBy before.out after.out name refusal end → end_of run ≡ end → run.handlers.items ≡ handlers
    → EndsTaskWith stands answers closing task before after handlers run
refused_with stands answers closing task before after refusal name end handlers run named cause counted put same back =
    let P : End → Type 0 = λ e. EndsTask task before after Untold e in
    (Untold, subst P (sym same) (refused_ends task before after refusal name end named cause counted put), back)

-- words that ask for a task end as that does
pub words_with : {H : Type 0} (stands : H → List Delivery → Type 0) (answers : H → Delivery → Verdict) (closing : H → List ℕ)
    (words : List (List ℕ)) (task : Task) (before after : Outside) (handlers : List H) (run : RunEnd H) → IsTask words task
    → EndsTaskWith stands answers closing task before after handlers run → EndsWith stands answers closing words before after handlers run
words_with stands answers closing words task before after handlers run asked (hearing, ends, heard) = (hearing, inl (task, asked, ends), heard)

-- and words that ask for none, with the handlers as they were
pub nothing_with : {H : Type 0} (stands : H → List Delivery → Type 0) (answers : H → Delivery → Verdict) (closing : H → List ℕ)
    (words : List (List ℕ)) (before after : Outside) (end : End) (handlers : List H) (run : RunEnd H) → AskNothing words
    → EndsBefore refusals.Usage before after end → end_of run ≡ end → run.handlers.items ≡ handlers
    → EndsWith stands answers closing words before after handlers run
nothing_with stands answers closing words before after end handlers run nothing put same back =
    let P : End → Type 0 = λ e. EndsBefore refusals.Usage before after e in
    (Untold, inr (nothing, refl, subst P (sym same) put), back)

-- at the statuses 0 and 1 its text was put, and the closing texts of the handlers as they come back
pub done_with : {H : Type 0} (stands : H → List Delivery → Type 0) (answers : H → Delivery → Verdict) (closing : H → List ℕ)
    (words : List (List ℕ)) (before after : Outside) (handlers : List H) (end : RunEnd H)
    → EndsWith stands answers closing words before after handlers end → end.status < 2
    → (end.status ≡ done_status end.ledger) × PutsText words before after end.ledger (closing_behind closing end.ledger end.handlers.items)
done_with stands answers closing words before after handlers end (hearing, ends, heard) less =
    let done = is_done words before after hearing (end_of end) ends less in
    let P : List ℕ → Type 0 = λ text. PutsText words before after end.ledger text in
    (done.0, subst P (closing_heard stands answers closing end.ledger handlers end.handlers.items hearing done.1 heard) done.2)

-- then they were told of the ledger
pub told_with : {H : Type 0} (stands : H → List Delivery → Type 0) (answers : H → Delivery → Verdict) (closing : H → List ℕ)
    (words : List (List ℕ)) (before after : Outside) (handlers : List H) (end : RunEnd H)
    → EndsWith stands answers closing words before after handlers end → end.status < 2
    → AreToldOf stands answers end.ledger handlers end.handlers.items
told_with stands answers closing words before after handlers end (hearing, ends, heard) less =
    let done = is_done words before after hearing (end_of end) ends less in
    told_heard stands answers closing end.ledger handlers end.handlers.items hearing done.1 heard

-- all come back
pub back_with : {H : Type 0} (stands : H → List Delivery → Type 0) (answers : H → Delivery → Verdict) (closing : H → List ℕ)
    (words : List (List ℕ)) (before after : Outside) (handlers : List H) (end : RunEnd H)
    → EndsWith stands answers closing words before after handlers end → length end.handlers.items ≡ length handlers
back_with stands answers closing words before after handlers end (hearing, ends, heard) =
    all_back stands answers closing handlers end.handlers.items hearing heard

-- at a refusal that is not for want of memory they are as they were
pub untold_with : {H : Type 0} (stands : H → List Delivery → Type 0) (answers : H → Delivery → Verdict) (closing : H → List ℕ)
    (words : List (List ℕ)) (before after : Outside) (handlers : List H) (end : RunEnd H)
    → EndsWith stands answers closing words before after handlers end → IsTrue (is_untold_status end.status) → end.handlers.items ≡ handlers
untold_with stands answers closing words before after handlers end (hearing, ends, heard) comes =
    as_before stands answers closing handlers end.handlers.items hearing (nobody_told words before after hearing (end_of end) ends comes) heard

-- How a run of the program ends.
use Rattle.std.specs.Prelude.{◌≡◌, ◌⊎◌, ℕ, List, [], ◌++◌, Bool, ◌||◌, ◌==◌, Option, Some, None, Result, Ok, Err}
use Rattle.ghes_handlers.specs.Closing.{closing_texts}
use Rattle.ghes_handlers.specs.Deliveries.{deliveries_of}
use Rattle.ghes_notify.specs.Delivery.{Delivery}
use Rattle.ghes_notify.specs.declared.handler.Verdict.{Verdict}
use Rattle.ghes_outside.specs.Outside.{SinkSeen, Rose, Appends, AppendsFront}
use Rattle.ghes_replay.specs.declared.exit.Refusal.{Refusal}
use Rattle.ghes_replay.specs.declared.exit.Refusal.TheVariants as refusals
use Rattle.ghes_replay.specs.declared.putting.End.{End}
use Rattle.ghes_replay.specs.declared.run.RunEnd.{RunEnd}
use Rattle.ghes_replay.specs.Done.{Output, output, IsDone, TaskCause, done_status}
use Rattle.ghes_ledger.specs.Kept.{Kept}
use Rattle.ghes_replay.specs.Hearing.{Hearing, Untold, ToldShort, IsHeard, AreHeard, AreToldIn, closing_of}
use Rattle.ghes_replay.specs.Loading.{CountsFailed}
use Rattle.ghes_replay.specs.Refusal.{status_of, line_of, refused_name}
use Rattle.ghes_replay.specs.Seen.{Outside, NoneFailed}
use Rattle.ghes_replay.specs.Task.{Task, IsTask}

-- the end of what was done, by its ledger
abbrev pub done_end : Option Kept → End
done_end ledger = record { status = done_status ledger; ledger = ledger }

-- an end without a ledger
abbrev pub bare_end : ℕ → End
bare_end status = record { status = status; ledger = None }

-- the end of a run, without its handlers
abbrev pub end_of : {H : Type 0} → RunEnd H → End
end_of end = record { status = end.status; ledger = end.ledger }

-- A text was put: whole, and the run ended so, or a front of it, and the run ended with status 6 in place of that.
abbrev pub WasPut : SinkSeen → SinkSeen → List ℕ → End → End → Type 0
WasPut before after text wanted end =
    (end.ledger ≡ wanted.ledger)
    × (((end.status ≡ wanted.status) × Appends before.written after.written text)
    ⊎ ((end.status ≡ 6) × Rose before.faults after.faults × AppendsFront before.written after.written text))

-- the line of a refusal was put, where it has this name
abbrev pub PutsLine : SinkSeen → SinkSeen → List ℕ → Refusal → End → Type 0
PutsLine before after name refusal end = WasPut before after (line_of name refusal) (bare_end (status_of refusal)) end

-- the line of a refusal was put, or that for want of memory
abbrev pub RefusedBy : SinkSeen → SinkSeen → List ℕ → Refusal → End → Type 0
RefusedBy before after name refusal end = PutsLine before after name refusal end ⊎ PutsLine before after name refusals.OutOfMemory end

-- the task was done, no load failed, and the text was put, with the closing texts of the handlers that were told of all
abbrev pub EndsDone : Task → Outside → Outside → Hearing → End → Type 0
EndsDone task before after hearing end =
    (done : Output) × IsDone before.files task done × NoneFailed before.files after.files × IsHeard done.ledger hearing
    × WasPut before.out after.out (done.text ++ closing_of hearing) (done_end done.ledger) end

-- the task was refused for a cause, no load failed but for that, nobody was told, and the line of the refusal was put
abbrev pub EndsRefused : Task → Outside → Outside → Hearing → End → Type 0
EndsRefused task before after hearing end =
    (refusal : Refusal) × TaskCause before.files after.files task refusal × CountsFailed before.files after.files refusal
    × (hearing ≡ Untold) × PutsLine before.out after.out (refused_name task refusal) refusal end

-- the replay was done, no load failed, memory ran out for a handler, and the line of that was put
abbrev pub EndsShort : Task → Outside → Outside → Hearing → End → Type 0
EndsShort task before after hearing end =
    (done : Output) × IsDone before.files task done × NoneFailed before.files after.files
    × ((ledger : Kept) × (done.ledger ≡ Some ledger) × (hearing ≡ ToldShort ledger))
    × PutsLine before.out after.out [] refusals.HandlerMemory end

-- how a run of a task ends
abbrev pub EndsTask : Task → Outside → Outside → Hearing → End → Type 0
EndsTask task before after hearing end =
    EndsDone task before after hearing end ⊎ (EndsRefused task before after hearing end ⊎ EndsShort task before after hearing end)

-- the words ask for no task
abbrev pub AskNothing : List (List ℕ) → Type 0
AskNothing words = (task : Task) → IsTask words task → ⊥

-- no file was touched, and a line was put that is about none
abbrev pub EndsBefore : Refusal → Outside → Outside → End → Type 0
EndsBefore refusal before after end = (after.files ≡ before.files) × RefusedBy before.out after.out [] refusal end

-- How a run ends, by its words, its files, its output and what its handlers were told: the words ask for a task, which is done or refused,
-- or for none.
abbrev pub EndsBy : List (List ℕ) → Outside → Outside → Hearing → End → Type 0
EndsBy words before after hearing end =
    ((task : Task) × IsTask words task × EndsTask task before after hearing end)
    ⊎ (AskNothing words × (hearing ≡ Untold) × EndsBefore refusals.Usage before after end)

-- How a run with handlers ends: so, and each of them stands for what it was told.
abbrev pub EndsWith : {H : Type 0} → (H → List Delivery → Type 0) → (H → Delivery → Verdict) → (H → List ℕ)
    → List (List ℕ) → Outside → Outside → List H → RunEnd H → Type 0
EndsWith stands answers closing words before after handlers end =
    (hearing : Hearing) × EndsBy words before after hearing (end_of end)
    × AreHeard stands answers closing handlers end.handlers.items hearing

-- the text of what was done was put, or the line of a refusal that is about no file
abbrev pub PutsAnswer : SinkSeen → SinkSeen → Result Output Refusal → End → Type 0
PutsAnswer before after (Ok done) end = WasPut before after done.text (done_end done.ledger) end
PutsAnswer before after (Err refusal) end = RefusedBy before after [] refusal end

-- what was done was put, with the closing texts of the handlers that were told of all; or memory ran out for a handler, or before any was
-- told, and a line was put
abbrev pub PutsHeard : SinkSeen → SinkSeen → Output → Hearing → End → Type 0
PutsHeard before after done hearing end =
    (IsHeard done.ledger hearing × WasPut before after (done.text ++ closing_of hearing) (done_end done.ledger) end)
    ⊎ (((ledger : Kept) × (done.ledger ≡ Some ledger) × (hearing ≡ ToldShort ledger)) × PutsLine before after [] refusals.HandlerMemory end
    ⊎ ((hearing ≡ Untold) × PutsLine before after [] refusals.OutOfMemory end))

abbrev pub PutsWith : {H : Type 0} → (H → List Delivery → Type 0) → (H → Delivery → Verdict) → (H → List ℕ)
    → SinkSeen → SinkSeen → Output → List H → RunEnd H → Type 0
PutsWith stands answers closing before after done handlers end =
    (hearing : Hearing) × PutsHeard before after done hearing (end_of end)
    × AreHeard stands answers closing handlers end.handlers.items hearing

-- how a run of a task with handlers ends
abbrev pub EndsTaskWith : {H : Type 0} → (H → List Delivery → Type 0) → (H → Delivery → Verdict) → (H → List ℕ)
    → Task → Outside → Outside → List H → RunEnd H → Type 0
EndsTaskWith stands answers closing task before after handlers end =
    (hearing : Hearing) × EndsTask task before after hearing (end_of end)
    × AreHeard stands answers closing handlers end.handlers.items hearing

-- the statuses of a run
abbrev pub is_status : ℕ → Bool
is_status status = (status == 0) || (status == 1) || (status == 2) || (status == 3) || (status == 4) || (status == 5) || (status == 6) || (status == 7) || (status == 8)

-- the statuses of a listing
abbrev pub is_check_status : ℕ → Bool
is_check_status status = (status == 0) || (status == 3) || (status == 5) || (status == 6) || (status == 7)

-- the statuses of a block's text
abbrev pub is_decode_status : ℕ → Bool
is_decode_status status = (status == 0) || (status == 5) || (status == 6) || (status == 7)

-- The task that the words ask for was done: the ledger is that of a replay, and the bytes put are its text, and behind it this closing text.
pub record PutsText (words : List (List ℕ)) (before after : Outside) (ledger : Option Kept) (closing : List ℕ) : Type 0 where
  pub task : Task
  pub asked : IsTask words task
  pub text : List ℕ
  pub done : IsDone before.files task (output ledger text)
  pub put : Appends before.out.written after.out.written (text ++ closing)

-- the closing texts of handlers behind a ledger; without one they are not asked
abbrev pub closing_behind : {H : Type 0} → (H → List ℕ) → Option Kept → List H → List ℕ
closing_behind closing None handlers = []
closing_behind closing (Some ledger) handlers = closing_texts closing handlers

-- handlers were told of all deliveries of a ledger; without one they are as they were
abbrev pub AreToldOf : {H : Type 0} → (H → List Delivery → Type 0) → (H → Delivery → Verdict) → Option Kept → List H → List H → Type 0
AreToldOf stands answers None old new = new ≡ old
AreToldOf stands answers (Some ledger) old new = AreToldIn stands answers (deliveries_of ledger.taken) old new (Ok tt)

-- the statuses of a refusal behind which each handler is as it was
abbrev pub is_untold_status : ℕ → Bool
is_untold_status status = (status == 2) || (status == 3) || (status == 4) || (status == 5) || (status == 8)

-- a status, unless the output failed or memory ran out
abbrev pub IsUnlessFault : ℕ → ℕ → Type 0
IsUnlessFault status expected = (status ≡ expected) ⊎ ((status ≡ 6) ⊎ (status ≡ 7))

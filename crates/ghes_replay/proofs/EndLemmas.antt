-- What follows from how a run ends: what is accepted is done, and what is refused gets its status.
use Rattle.std.proofs.Common.{◌≡◌, ◌<◌, ◌⊎◌, ℕ, Bool, true, false, List, [], ◌++◌, Option, None, inl, inr, refl, sym, ap, subst, ◌∙◌, arith}
use Rattle.std.specs.Prelude.{IsTrue, if◌then◌else◌}
use Rattle.ghes_outside.specs.Outside.{FilesSeen, SinkSeen, Rose}
use Rattle.ghes_outside.specs.declared.files.LoadError.TheVariants as loads
use Rattle.ghes_replay.specs.declared.exit.Refusal.{Refusal}
use Rattle.ghes_replay.specs.declared.exit.Refusal.TheVariants as refusals
use Rattle.ghes_replay.specs.declared.putting.End.{End}
use Rattle.ghes_replay.specs.Done.{Output, output, IsDone, TaskCause, done_status, has_fatal}
use Rattle.ghes_ledger.specs.Kept.{Kept}
use Rattle.ghes_replay.specs.Hearing.{Hearing, Untold, IsHeard, closing_of}
use Rattle.ghes_replay.specs.Loading.{CountsFailed}
use Rattle.ghes_replay.specs.Refusal.{status_of, line_of, refused_name}
use Rattle.ghes_replay.specs.Run.{AskNothing, EndsBy, EndsTask, IsUnlessFault, PutsHeard, PutsLine, PutsText, RefusedBy, WasPut, bare_end, done_end, is_status, is_untold_status}
use Rattle.ghes_replay.specs.Seen.{Outside, NoneFailed}
use Rattle.ghes_replay.specs.Task.{Task, Replay, Check, Decode, IsTask}
use Rattle.ghes_replay.specs.Told.{HasBadTable, HasBadMachine, HasBadScript, IsAccepted}
use Rattle.ghes_replay.proofs.LoadLemmas.{none_in}
use Rattle.ghes_replay.proofs.TaskLemmas.{only_memory, not_done, table_refused, machine_not_done, machine_refused, script_not_done, script_refused}

-- want of memory refuses each task
memory_cause : (before after : FilesSeen) (task : Task) → TaskCause before after task refusals.OutOfMemory
memory_cause before after (Replay hest einj script) = inl (inl tt)
memory_cause before after (Check hest einj) = inl tt
memory_cause before after (Decode block) = tt

-- a refusal with its cause was put, or want of memory
pub refused_ends : (task : Task) (before after : Outside) (refusal : Refusal) (name : List ℕ) (end : End) → name ≡ refused_name task refusal → TaskCause before.files after.files task refusal → CountsFailed before.files after.files refusal → RefusedBy before.out after.out name refusal end → EndsTask task before after Untold end
refused_ends task before after refusal name end same cause counted (inl put) =
    let P : List ℕ → Type 0 = λ text. PutsLine before.out after.out text refusal end in
    inr (inl (refusal, cause, counted, refl, subst P same put))
refused_ends task before after refusal name end same cause counted (inr put) = inr (inl (refusals.OutOfMemory, memory_cause before.files after.files task, tt, refl, put))

-- what was done was put behind its handlers
pub heard_ends : (task : Task) (before after : Outside) (done : Output) (hearing : Hearing) (end : End) → IsDone before.files task done → NoneFailed before.files after.files → PutsHeard before.out after.out done hearing end → EndsTask task before after hearing end
heard_ends task before after done hearing end is none (inl (heard, put)) = inl (done, is, none, heard, put)
heard_ends task before after done hearing end is none (inr (inl (short, put))) = inr (inr (done, is, none, short, put))
heard_ends task before after done hearing end is none (inr (inr (untold, put))) = inr (inl (refusals.OutOfMemory, memory_cause before.files after.files task, tt, untold, put))

-- the words ask for one task
same_task : (words : List (List ℕ)) (task task' : Task) → IsTask words task → IsTask words task' → task ≡ task'
same_task words (Replay hest einj script) (Replay hest' einj' script') is is' = cc
same_task words (Replay hest einj script) (Check hest' einj') is is' = cc
same_task words (Replay hest einj script) (Decode block') is is' = cc
same_task words (Check hest einj) (Replay hest' einj' script') is is' = cc
same_task words (Check hest einj) (Check hest' einj') is is' = cc
same_task words (Check hest einj) (Decode block') is is' = cc
same_task words (Decode block) (Replay hest' einj' script') is is' = cc
same_task words (Decode block) (Check hest' einj') is is' = cc
same_task words (Decode block) (Decode block') is is' = cc

-- a run of words that ask for a task ends as one of that task
of_task : (words : List (List ℕ)) (task : Task) (before after : Outside) (hearing : Hearing) (end : End) → IsTask words task → EndsBy words before after hearing end → EndsTask task before after hearing end
of_task words task before after hearing end asked (inl (task', asked', ends)) =
    let P : Task → Type 0 = λ t. EndsTask t before after hearing end in
    subst P (same_task words task' task asked' asked) ends
of_task words task before after hearing end asked (inr (nothing, untold, ends)) = absurd (nothing task asked)

-- what was put with a status ended with it, or with 6
status_put : (before after : SinkSeen) (text : List ℕ) (wanted end : End) → WasPut before after text wanted end → (end.status ≡ wanted.status) ⊎ (end.status ≡ 6)
status_put before after text wanted end (same, inl whole) = inl whole.0
status_put before after text wanted end (same, inr cut) = inr cut.0

-- status 6 is of a put that failed
rose_at_6 : (before after : SinkSeen) (text : List ℕ) (wanted end : End) → (wanted.status ≡ 6 → ⊥) → WasPut before after text wanted end → end.status ≡ 6 → Rose before.faults after.faults
rose_at_6 before after text wanted end never (same, inl whole) six = absurd (never (sym whole.0 ∙ six))
rose_at_6 before after text wanted end never (same, inr cut) six = cut.1

-- a refusal with this status, or want of memory
unless_fault : (name : List ℕ) (before after : SinkSeen) (refusal : Refusal) (expected : ℕ) (end : End) → (status_of refusal ≡ expected) ⊎ (status_of refusal ≡ 7) → PutsLine before after name refusal end → IsUnlessFault end.status expected
unless_fault name before after refusal expected end which (same, inl whole) = elim which [ inl is ↦ inl (whole.0 ∙ is) | inr memory ↦ inr (inr (whole.0 ∙ memory)) ]
unless_fault name before after refusal expected end which (same, inr cut) = inr (inl cut.0)

-- words that ask for nothing are refused as such
pub bad_words : (words : List (List ℕ)) (before after : Outside) (hearing : Hearing) (end : End) → EndsBy words before after hearing end → AskNothing words → IsUnlessFault end.status 2
bad_words words before after hearing end (inl (task, asked, ends)) nothing = absurd (nothing task asked)
bad_words words before after hearing end (inr (none, untold, (same, inl put))) nothing = unless_fault [] before.out after.out refusals.Usage 2 end (inl refl) put
bad_words words before after hearing end (inr (none, untold, (same, inr put))) nothing = unless_fault [] before.out after.out refusals.OutOfMemory 2 end (inr refl) put

-- an accepted task ends with the status of what was done, or with 7
complete_task : (words : List (List ℕ)) (before after : Outside) (hearing : Hearing) (end : End) (a : IsAccepted words before after) → EndsTask a.task before after hearing end → (end.status ≡ done_status end.ledger) ⊎ (end.status ≡ 7)
complete_task words before after hearing end a (inl (done, is, none, heard, (same, inl whole))) = inl (whole.0 ∙ ap done_status (sym same))
complete_task words before after hearing end a (inl (done, is, none, heard, (same, inr cut))) = absurd (a.no_failed_put cut.1)
complete_task words before after hearing end a (inr (inl (refusal, cause, counted, untold, (same, inl whole)))) =
    inr (whole.0 ∙ only_memory before.files after.files a.task refusal a.no_failed_load a.accepted cause)
complete_task words before after hearing end a (inr (inl (refusal, cause, counted, untold, (same, inr cut)))) = absurd (a.no_failed_put cut.1)
complete_task words before after hearing end a (inr (inr (done, is, none, short, (same, inl whole)))) = inr whole.0
complete_task words before after hearing end a (inr (inr (done, is, none, short, (same, inr cut)))) = absurd (a.no_failed_put cut.1)

pub is_complete : (words : List (List ℕ)) (before after : Outside) (hearing : Hearing) (end : End) → EndsBy words before after hearing end → IsAccepted words before after → (end.status ≡ done_status end.ledger) ⊎ (end.status ≡ 7)
is_complete words before after hearing end ends a = complete_task words before after hearing end a (of_task words a.task before after hearing end a.asked ends)

-- a refused table
table_task : (words : List (List ℕ)) (before after : Outside) (hearing : Hearing) (end : End) (b : HasBadTable words before.files after.files) → EndsTask b.task before after hearing end → IsUnlessFault end.status 3
table_task words before after hearing end b (inl (done, is, none, heard, put)) = absurd (not_done before.files b.task done b.table is)
table_task words before after hearing end b (inr (inl (refusal, cause, counted, untold, put))) =
    unless_fault (refused_name b.task refusal) before.out after.out refusal 3 end (table_refused before.files after.files b.task refusal b.no_failed_load b.table cause) put
table_task words before after hearing end b (inr (inr (done, is, none, short, put))) = absurd (not_done before.files b.task done b.table is)

pub bad_table : (words : List (List ℕ)) (before after : Outside) (hearing : Hearing) (end : End) → EndsBy words before after hearing end → HasBadTable words before.files after.files → IsUnlessFault end.status 3
bad_table words before after hearing end ends b = table_task words before after hearing end b (of_task words b.task before after hearing end b.asked ends)

-- tables of which there is no machine
machine_task : (words : List (List ℕ)) (before after : Outside) (hearing : Hearing) (end : End) (b : HasBadMachine words before.files after.files) → EndsTask (Replay b.hest b.einj b.script) before after hearing end → IsUnlessFault end.status 8
machine_task words before after hearing end b (inl (done, is, none, heard, put)) = absurd (machine_not_done words before.files after.files b done is)
machine_task words before after hearing end b (inr (inl (refusal, cause, counted, untold, put))) =
    unless_fault (refused_name (Replay b.hest b.einj b.script) refusal) before.out after.out refusal 8 end (machine_refused words before.files after.files b refusal cause) put
machine_task words before after hearing end b (inr (inr (done, is, none, short, put))) = absurd (machine_not_done words before.files after.files b done is)

pub bad_machine : (words : List (List ℕ)) (before after : Outside) (hearing : Hearing) (end : End) → EndsBy words before after hearing end → HasBadMachine words before.files after.files → IsUnlessFault end.status 8
bad_machine words before after hearing end ends b = machine_task words before after hearing end b (of_task words (Replay b.hest b.einj b.script) before after hearing end b.asked ends)

-- a refused script
script_task : (words : List (List ℕ)) (before after : Outside) (hearing : Hearing) (end : End) (b : HasBadScript words before.files after.files) → EndsTask (Replay b.hest b.einj b.script) before after hearing end → IsUnlessFault end.status 4
script_task words before after hearing end b (inl (done, is, none, heard, put)) = absurd (script_not_done words before.files after.files b done is)
script_task words before after hearing end b (inr (inl (refusal, cause, counted, untold, put))) =
    unless_fault (refused_name (Replay b.hest b.einj b.script) refusal) before.out after.out refusal 4 end (script_refused words before.files after.files b refusal cause) put
script_task words before after hearing end b (inr (inr (done, is, none, short, put))) = absurd (script_not_done words before.files after.files b done is)

pub bad_script : (words : List (List ℕ)) (before after : Outside) (hearing : Hearing) (end : End) → EndsBy words before after hearing end → HasBadScript words before.files after.files → IsUnlessFault end.status 4
bad_script words before after hearing end ends b = script_task words before after hearing end b (of_task words (Replay b.hest b.einj b.script) before after hearing end b.asked ends)

-- a failed load is told by its refusal, unless memory ran out
failed_status : (before after : FilesSeen) (refusal : Refusal) → (NoneFailed before after → ⊥) → CountsFailed before after refusal → (status_of refusal ≡ 5) ⊎ (status_of refusal ≡ 7)
failed_status before after (refusals.Load file loads.Failed) failed counted = inl refl
failed_status before after refusals.OutOfMemory failed counted = inr refl
failed_status before after other failed counted = absurd (failed counted)

untouched : (before after : FilesSeen) → after ≡ before → NoneFailed before after
untouched before after same =
    let P : FilesSeen → Type 0 = λ files. NoneFailed before files in
    subst P (sym same) (none_in before)

pub failed_load : (words : List (List ℕ)) (before after : Outside) (hearing : Hearing) (end : End) → EndsBy words before after hearing end → (NoneFailed before.files after.files → ⊥) → IsUnlessFault end.status 5
failed_load words before after hearing end (inl (task, asked, inl (done, is, none, heard, put))) failed = absurd (failed none)
failed_load words before after hearing end (inl (task, asked, inr (inl (refusal, cause, counted, untold, put)))) failed =
    unless_fault (refused_name task refusal) before.out after.out refusal 5 end (failed_status before.files after.files refusal failed counted) put
failed_load words before after hearing end (inl (task, asked, inr (inr (done, is, none, short, put)))) failed = absurd (failed none)
failed_load words before after hearing end (inr (nothing, untold, (same, put))) failed = absurd (failed (untouched before.files after.files same))

-- no refusal ends with status 0, 1 or 6
refused_above : (refusal : Refusal) → status_of refusal < 2 → ⊥
refused_above refusals.Usage less = absurd (omega (arith, less))
refused_above (refusals.Hest error) less = absurd (omega (arith, less))
refused_above (refusals.Einj error) less = absurd (omega (arith, less))
refused_above (refusals.Platform error) less = absurd (omega (arith, less))
refused_above (refusals.Script line kind) less = absurd (omega (arith, less))
refused_above (refusals.Full line) less = absurd (omega (arith, less))
refused_above (refusals.Load file why) less = absurd (omega (arith, less))
refused_above refusals.OutOfMemory less = absurd (omega (arith, less))
refused_above refusals.HandlerMemory less = absurd (omega (arith, less))

not_refused_at_6 : (refusal : Refusal) → status_of refusal ≡ 6 → ⊥
not_refused_at_6 refusals.Usage six = absurd (omega (arith, six))
not_refused_at_6 (refusals.Hest error) six = absurd (omega (arith, six))
not_refused_at_6 (refusals.Einj error) six = absurd (omega (arith, six))
not_refused_at_6 (refusals.Platform error) six = absurd (omega (arith, six))
not_refused_at_6 (refusals.Script line kind) six = absurd (omega (arith, six))
not_refused_at_6 (refusals.Full line) six = absurd (omega (arith, six))
not_refused_at_6 (refusals.Load file why) six = absurd (omega (arith, six))
not_refused_at_6 refusals.OutOfMemory six = absurd (omega (arith, six))
not_refused_at_6 refusals.HandlerMemory six = absurd (omega (arith, six))

below_2 : (before after : SinkSeen) (name : List ℕ) (refusal : Refusal) (end : End) → PutsLine before after name refusal end → end.status < 2 → ⊥
below_2 before after name refusal end (same, inl whole) less = refused_above refusal (omega (arith, whole.0, less))
below_2 before after name refusal end (same, inr cut) less = absurd (omega (arith, cut.0, less))

abbrev status_if : Bool → ℕ
status_if b = if b then 1 else 0

one_or_none : (b : Bool) → (status_if b ≡ 0) ⊎ (status_if b ≡ 1)
one_or_none true = inr refl
one_or_none false = inl refl

done_below_2 : (ledger : Option Kept) → (done_status ledger ≡ 0) ⊎ (done_status ledger ≡ 1)
done_below_2 ledger = one_or_none (has_fatal ledger)

not_done_at_6 : (ledger : Option Kept) → done_status ledger ≡ 6 → ⊥
not_done_at_6 ledger six = elim (done_below_2 ledger) [ inl zero ↦ absurd (omega (arith, zero, six)) | inr one ↦ absurd (omega (arith, one, six)) ]

-- status 6 comes where a put failed
pub put_failed : (words : List (List ℕ)) (before after : Outside) (hearing : Hearing) (end : End) → EndsBy words before after hearing end → end.status ≡ 6 → Rose before.out.faults after.out.faults
put_failed words before after hearing end (inl (task, asked, inl (done, is, none, heard, put))) six = rose_at_6 before.out after.out (done.text ++ closing_of hearing) (done_end done.ledger) end (not_done_at_6 done.ledger) put six
put_failed words before after hearing end (inl (task, asked, inr (inl (refusal, cause, counted, untold, put)))) six =
    rose_at_6 before.out after.out (line_of (refused_name task refusal) refusal) (bare_end (status_of refusal)) end (not_refused_at_6 refusal) put six
put_failed words before after hearing end (inl (task, asked, inr (inr (done, is, none, short, put)))) six =
    rose_at_6 before.out after.out (line_of [] refusals.HandlerMemory) (bare_end 7) end (not_refused_at_6 refusals.HandlerMemory) put six
put_failed words before after hearing end (inr (nothing, untold, (same, inl put))) six =
    rose_at_6 before.out after.out (line_of [] refusals.Usage) (bare_end 2) end (not_refused_at_6 refusals.Usage) put six
put_failed words before after hearing end (inr (nothing, untold, (same, inr put))) six =
    rose_at_6 before.out after.out (line_of [] refusals.OutOfMemory) (bare_end 7) end (not_refused_at_6 refusals.OutOfMemory) put six

-- at the statuses 0 and 1 what was asked for is done, with that status, and its text was put, with that of the handlers
pub is_done : (words : List (List ℕ)) (before after : Outside) (hearing : Hearing) (end : End) → EndsBy words before after hearing end → end.status < 2
    → (end.status ≡ done_status end.ledger) × IsHeard end.ledger hearing × PutsText words before after end.ledger (closing_of hearing)
is_done words before after hearing end (inl (task, asked, inl (done, is, none, heard, (same, inl whole)))) less =
    let P : Option Kept → Type 0 = λ ledger. IsDone before.files task (output ledger done.text) in
    let Q : Option Kept → Type 0 = λ ledger. IsHeard ledger hearing in (
      whole.0 ∙ ap done_status (sym same),
      subst Q (sym same) heard,
      record { task = task; asked = asked; text = done.text; done = subst P (sym same) is; put = whole.1 },
    )
is_done words before after hearing end (inl (task, asked, inl (done, is, none, heard, (same, inr cut)))) less = absurd (omega (arith, cut.0, less))
is_done words before after hearing end (inl (task, asked, inr (inl (refusal, cause, counted, untold, put)))) less = absurd (below_2 before.out after.out (refused_name task refusal) refusal end put less)
is_done words before after hearing end (inl (task, asked, inr (inr (done, is, none, short, put)))) less = absurd (below_2 before.out after.out [] refusals.HandlerMemory end put less)
is_done words before after hearing end (inr (nothing, untold, (same, inl put))) less = absurd (below_2 before.out after.out [] refusals.Usage end put less)
is_done words before after hearing end (inr (nothing, untold, (same, inr put))) less = absurd (below_2 before.out after.out [] refusals.OutOfMemory end put less)

-- at status 0, where there is no ledger
pub is_listed : (words : List (List ℕ)) (before after : Outside) (status : ℕ) → EndsBy words before after Untold (bare_end status) → status ≡ 0 → PutsText words before after None []
is_listed words before after status ends zero = (is_done words before after Untold (bare_end status) ends (omega (arith, zero))).2

-- a status that is none of those
not_untold_at : (expected status : ℕ) → is_untold_status expected ≡ false → status ≡ expected → IsTrue (is_untold_status status) → ⊥
not_untold_at expected status other same comes = false_true (sym other ∙ ap is_untold_status (sym same) ∙ comes)
  where
    false_true : false ≡ true → ⊥
    false_true e = cc

not_untold_put : (before after : SinkSeen) (text : List ℕ) (wanted end : End) → is_untold_status wanted.status ≡ false → WasPut before after text wanted end → IsTrue (is_untold_status end.status) → ⊥
not_untold_put before after text wanted end other put comes = elim (status_put before after text wanted end put) [
  | inl same ↦ not_untold_at wanted.status end.status other same comes
  | inr cut ↦ not_untold_at 6 end.status refl cut comes
]

not_untold_done : (ledger : Option Kept) → is_untold_status (done_status ledger) ≡ false
not_untold_done ledger = elim (done_below_2 ledger) [ inl zero ↦ ap is_untold_status zero | inr one ↦ ap is_untold_status one ]

-- at a refusal that is not for want of memory nobody was told
pub nobody_told : (words : List (List ℕ)) (before after : Outside) (hearing : Hearing) (end : End) → EndsBy words before after hearing end → IsTrue (is_untold_status end.status) → hearing ≡ Untold
nobody_told words before after hearing end (inl (task, asked, inl (done, is, none, heard, put))) comes = absurd (not_untold_put before.out after.out (done.text ++ closing_of hearing) (done_end done.ledger) end (not_untold_done done.ledger) put comes)
nobody_told words before after hearing end (inl (task, asked, inr (inl (refusal, cause, counted, untold, put)))) comes = untold
nobody_told words before after hearing end (inl (task, asked, inr (inr (done, is, none, short, put)))) comes = absurd (not_untold_put before.out after.out (line_of [] refusals.HandlerMemory) (bare_end 7) end refl put comes)
nobody_told words before after hearing end (inr (nothing, untold, put)) comes = untold

-- a status from the list
is_status_at : (expected status : ℕ) → IsTrue (is_status expected) → status ≡ expected → IsTrue (is_status status)
is_status_at expected status is same =
    let P : ℕ → Type 0 = λ s. IsTrue (is_status s) in
    subst P (sym same) is

refused_status : (refusal : Refusal) → IsTrue (is_status (status_of refusal))
refused_status refusals.Usage = refl
refused_status (refusals.Hest error) = refl
refused_status (refusals.Einj error) = refl
refused_status (refusals.Platform error) = refl
refused_status (refusals.Script line kind) = refl
refused_status (refusals.Full line) = refl
refused_status (refusals.Load file why) = refl
refused_status refusals.OutOfMemory = refl
refused_status refusals.HandlerMemory = refl

status_done : (ledger : Option Kept) → IsTrue (is_status (done_status ledger))
status_done ledger = elim (done_below_2 ledger) [ inl zero ↦ is_status_at 0 _ refl zero | inr one ↦ is_status_at 1 _ refl one ]

put_status : (before after : SinkSeen) (text : List ℕ) (wanted end : End) → IsTrue (is_status wanted.status) → WasPut before after text wanted end → IsTrue (is_status end.status)
put_status before after text wanted end is put = elim (status_put before after text wanted end put) [
  | inl same ↦ is_status_at wanted.status end.status is same
  | inr cut ↦ is_status_at 6 end.status refl cut
]

pub statuses : (words : List (List ℕ)) (before after : Outside) (hearing : Hearing) (end : End) → EndsBy words before after hearing end → IsTrue (is_status end.status)
statuses words before after hearing end (inl (task, asked, inl (done, is, none, heard, put))) = put_status before.out after.out (done.text ++ closing_of hearing) (done_end done.ledger) end (status_done done.ledger) put
statuses words before after hearing end (inl (task, asked, inr (inl (refusal, cause, counted, untold, put)))) =
    put_status before.out after.out (line_of (refused_name task refusal) refusal) (bare_end (status_of refusal)) end (refused_status refusal) put
statuses words before after hearing end (inl (task, asked, inr (inr (done, is, none, short, put)))) = put_status before.out after.out (line_of [] refusals.HandlerMemory) (bare_end 7) end refl put
statuses words before after hearing end (inr (nothing, untold, (same, inl put))) = put_status before.out after.out (line_of [] refusals.Usage) (bare_end 2) end refl put
statuses words before after hearing end (inr (nothing, untold, (same, inr put))) = put_status before.out after.out (line_of [] refusals.OutOfMemory) (bare_end 7) end refl put

-- Why a task is refused, by what is told of its files.
use Rattle.std.proofs.Common.{◌≡◌, ◌⊎◌, ℕ, List, Option, None, Some, inl, inr, refl, sym, subst}
use Rattle.apei_einj.specs.declared.entry.Entry.{Entry}
use Rattle.apei_hest.specs.Refusal.{enabled}
use Rattle.apei_hest.specs.declared.source.Ghes.{Ghes}
use Rattle.apei_hest.specs.declared.source.Source.{Source}
use Rattle.ghes_outside.specs.Outside.{FilesSeen, Rose}
use Rattle.ghes_outside.specs.declared.files.LoadError.TheVariants as loads
use Rattle.ghes_replay.specs.declared.exit.InputFile.{InputFile}
use Rattle.ghes_replay.specs.declared.exit.InputFile.TheVariants as files
use Rattle.ghes_replay.specs.declared.exit.Refusal.{Refusal}
use Rattle.ghes_replay.specs.declared.exit.Refusal.TheVariants as refusals
use Rattle.ghes_replay.specs.Done.{Output, IsDone, IsReplayed, TaskCause, MachineCause}
use Rattle.ghes_replay.specs.Loading.{HasTables, HasScript, LoadCause, HestCause, TablesCause, EinjCause, ScriptCause, script_setup}
use Rattle.ghes_replay.specs.Planned.{HasMachine, HasTooMany, NoMachine, NoReplay}
use Rattle.ghes_replay.specs.Refusal.{status_of}
use Rattle.ghes_replay.specs.Task.{Task, Replay, Check, Decode, IsEinjName}
use Rattle.ghes_replay.specs.Told.{IsTold, TellsHest, TellsTables, TellsScript, TellsInjection, AcceptsReplay, Accepts, RefusesTable, RefusesTables, HasBadMachine, HasBadScript}
use Rattle.ghes_replay.proofs.ToldLemmas.{not_longer, hest_not_refused, hest_not_accepted, found_once, named_once, not_refused_at, not_read_at, same_lines_told, einj_not_refused, einj_not_accepted}
use Rattle.ghes_script.specs.Setup.{Setup}
use Rattle.ghes_script.specs.declared.line.Line.{Line}

-- a told file is not loaded for want of memory alone
load_memory : (before after : FilesSeen) (file : InputFile) (name bytes : List ℕ) (refusal : Refusal) → (Rose before.faults after.faults → ⊥) → IsTold before file name bytes → LoadCause before after file name refusal → status_of refusal ≡ 7
load_memory before after file name bytes (refusals.Load which loads.Failed) unfailed told (is, rose, added) = absurd (unfailed rose)
load_memory before after file name bytes (refusals.Load which loads.TooLong) unfailed told (is, longer) = absurd (not_longer before file name bytes told longer)
load_memory before after file name bytes refusals.OutOfMemory unfailed told cause = refl
load_memory before after file name bytes other unfailed told cause = absurd cause

-- an accepted table is refused for want of memory alone
hest_memory : (before after : FilesSeen) (hest : List ℕ) (found : List Source) (refusal : Refusal) → (Rose before.faults after.faults → ⊥) → TellsHest before hest found → HestCause before after hest refusal → status_of refusal ≡ 7
hest_memory before after hest found (refusals.Hest error) unfailed tells (bytes, loaded, judged) = absurd (hest_not_accepted before hest bytes error found loaded judged tells)
hest_memory before after hest found other unfailed (told, t, judged) cause = load_memory before after files.Hest hest told other unfailed t cause

-- an accepted injection table is refused for want of memory alone
einj_memory : (before after : FilesSeen) (einj : List ℕ) (injection : Option (List Entry)) (refusal : Refusal) → (Rose before.faults after.faults → ⊥) → TellsInjection before einj injection → IsEinjName einj → EinjCause before after einj refusal → status_of refusal ≡ 7
einj_memory before after einj None refusal unfailed none named cause = absurd (named none)
einj_memory before after einj (Some entries) (refusals.Einj error) unfailed tells named (bytes, loaded, refused) = absurd (einj_not_accepted before einj bytes error (Some entries) named loaded refused tells)
einj_memory before after einj (Some entries) other unfailed (is_name, told, t, accepted) named cause = load_memory before after files.Einj einj told other unfailed t cause

-- accepted tables are
tables_memory : (before after : FilesSeen) (hest einj : List ℕ) (found : List Source) (injection : Option (List Entry)) (refusal : Refusal) → (Rose before.faults after.faults → ⊥) → TellsTables before hest einj found injection → TablesCause before after hest einj refusal → status_of refusal ≡ 7
tables_memory before after hest einj found injection refusal unfailed tells (inl cause) = hest_memory before after hest found refusal unfailed tells.table cause
tables_memory before after hest einj found injection refusal unfailed tells (inr (found', has, named, cause)) = einj_memory before after einj injection refusal unfailed tells.named named cause

-- an accepted script is
script_memory : (before after : FilesSeen) (script : List ℕ) (setup : Setup) (lines : List Line) (refusal : Refusal) → (Rose before.faults after.faults → ⊥) → TellsScript before script setup lines → ScriptCause before after script setup refusal → status_of refusal ≡ 7
script_memory before after script setup lines (refusals.Script line kind) unfailed (told, t, spelled) (bytes, loaded, refused) =
    absurd (not_refused_at before script setup bytes told lines (record { number = line; kind = kind }) loaded t refused spelled)
script_memory before after script setup lines other unfailed (told, t, spelled) cause = load_memory before after files.Script script told other unfailed t cause

-- tables of which there is a machine are refused for want of memory alone
machine_memory : (found : List Ghes) (injection : Option (List Entry)) (refusal : Refusal) → HasMachine found injection → NoMachine found injection refusal → status_of refusal ≡ 7
machine_memory found injection (refusals.Platform error) has (named, refused) = absurd (named (has.unrefused error refused))
machine_memory found injection refusals.OutOfMemory has none = refl
machine_memory found injection other has none = absurd none

-- lines that make no block too many are
lines_memory : (found : List Ghes) (injection : Option (List Entry)) (lines : List Line) (refusal : Refusal) → ((number : ℕ) → HasTooMany found injection lines number → ⊥) → NoReplay found injection lines refusal → status_of refusal ≡ 7
lines_memory found injection lines (refusals.Full number) few none = absurd (few number none)
lines_memory found injection lines refusals.OutOfMemory few none = refl
lines_memory found injection lines other few none = absurd none

module _ (before after : FilesSeen) (hest einj script : List ℕ) (a : AcceptsReplay before hest einj script) (refusal : Refusal) (unfailed : Rose before.faults after.faults → ⊥) where
  told_lines : (lines : List Line) → HasScript before script (script_setup a.found a.injection) lines → lines ≡ a.lines
  told_lines lines (bytes, loaded, spelled) = same_lines_told before script (script_setup a.found a.injection) bytes a.spelled.0 lines a.lines loaded a.spelled.1 spelled a.spelled.2

  behind_memory : MachineCause before after script a.found a.injection refusal → status_of refusal ≡ 7
  behind_memory (inl none) = machine_memory (enabled a.found) a.injection refusal a.machine.machine none
  behind_memory (inr (has, inl cause)) = script_memory before after script (script_setup a.found a.injection) a.lines refusal unfailed a.spelled cause
  behind_memory (inr (machine, inr (lines, has, none))) =
      lines_memory (enabled a.found) a.injection a.lines refusal a.few (subst (λ (ls : List Line). NoReplay (enabled a.found) a.injection ls refusal) (told_lines lines has) none)

  -- an accepted replay is refused for want of memory alone
  replay_memory : (found : List Source) (injection : Option (List Entry)) → HasTables before hest einj found injection → MachineCause before after script found injection refusal → status_of refusal ≡ 7
  replay_memory found injection has cause =
      let same = found_once before hest einj found a.found injection a.injection has a.machine.tables in
      let named = named_once before hest einj found a.found injection a.injection has a.machine.tables in
      behind_memory (subst (λ (i : Option (List Entry)). MachineCause before after script a.found i refusal) named
      (subst (λ (f : List Source). MachineCause before after script f injection refusal) same cause))

-- an accepted task is refused for want of memory alone
pub only_memory : (before after : FilesSeen) (task : Task) (refusal : Refusal) → (Rose before.faults after.faults → ⊥) → Accepts before task → TaskCause before after task refusal → status_of refusal ≡ 7
only_memory before after (Replay hest einj script) refusal unfailed a (inl cause) = tables_memory before after hest einj a.found a.injection refusal unfailed a.machine.tables cause
only_memory before after (Replay hest einj script) refusal unfailed a (inr (found, injection, has, cause)) = replay_memory before after hest einj script a refusal unfailed found injection has cause
only_memory before after (Check hest einj) refusal unfailed (found, injection, tells) cause = tables_memory before after hest einj found injection refusal unfailed tells cause
only_memory before after (Decode block) refusal unfailed (bytes, told) cause = load_memory before after files.Block block bytes refusal unfailed told cause

-- accepted tables are not refused
tables_not_refused : (before : FilesSeen) (hest einj : List ℕ) (found : List Source) (injection : Option (List Entry)) → HasTables before hest einj found injection → RefusesTables before hest einj → ⊥
tables_not_refused before hest einj found injection has (inl refuses) = hest_not_refused before hest found has.table refuses
tables_not_refused before hest einj found injection has (inr (found', tells, refuses)) = einj_not_refused before einj injection has.named refuses

-- a task is not done on a refused table
pub not_done : (before : FilesSeen) (task : Task) (done : Output) → RefusesTable before task → IsDone before task done → ⊥
not_done before (Replay hest einj script) done refuses (ledger, is, replayed) = tables_not_refused before hest einj replayed.found replayed.injection replayed.tables refuses
not_done before (Check hest einj) done refuses (none, checked) = tables_not_refused before hest einj checked.found checked.injection (record { table = checked.table; named = checked.named }) refuses
not_done before (Decode block) done refuses decoded = refuses

abbrev IsOrMemory : ℕ → Refusal → Type 0
IsOrMemory status refusal = (status_of refusal ≡ status) ⊎ (status_of refusal ≡ 7)

-- a told table is refused with status 3, or memory ran out
hest_refused : (before after : FilesSeen) (hest told : List ℕ) (refusal : Refusal) → (Rose before.faults after.faults → ⊥) → IsTold before files.Hest hest told → HestCause before after hest refusal → IsOrMemory 3 refusal
hest_refused before after hest told (refusals.Hest error) unfailed t cause = inl refl
hest_refused before after hest told other unfailed t cause = inr (load_memory before after files.Hest hest told other unfailed t cause)

-- a told injection table is refused with status 3, or memory ran out
einj_refused : (before after : FilesSeen) (einj told : List ℕ) (refusal : Refusal) → (Rose before.faults after.faults → ⊥) → IsTold before files.Einj einj told → EinjCause before after einj refusal → IsOrMemory 3 refusal
einj_refused before after einj told (refusals.Einj error) unfailed t cause = inl refl
einj_refused before after einj told other unfailed t cause = inr (load_memory before after files.Einj einj told other unfailed t cause)

-- refused tables are refused with status 3, or memory ran out
tables_refused : (before after : FilesSeen) (hest einj : List ℕ) (refusal : Refusal) → (Rose before.faults after.faults → ⊥) → RefusesTables before hest einj → TablesCause before after hest einj refusal → IsOrMemory 3 refusal
tables_refused before after hest einj refusal unfailed (inl (told, t, error, judged)) (inl cause) = hest_refused before after hest told refusal unfailed t cause
tables_refused before after hest einj refusal unfailed (inl refuses) (inr (found, has, named, cause)) = absurd (hest_not_refused before hest found has refuses)
tables_refused before after hest einj refusal unfailed (inr (found, tells, refuses)) (inl cause) = inr (hest_memory before after hest found refusal unfailed tells cause)
tables_refused before after hest einj refusal unfailed (inr (found, tells, (named', told, t, error, refused))) (inr (found', has, named, cause)) =
    einj_refused before after einj told refusal unfailed t cause

-- a task with a refused table is refused with status 3, or memory ran out
pub table_refused : (before after : FilesSeen) (task : Task) (refusal : Refusal) → (Rose before.faults after.faults → ⊥) → RefusesTable before task → TaskCause before after task refusal → IsOrMemory 3 refusal
table_refused before after (Replay hest einj script) refusal unfailed refuses (inl cause) = tables_refused before after hest einj refusal unfailed refuses cause
table_refused before after (Replay hest einj script) refusal unfailed refuses (inr (found, injection, has, cause)) = absurd (tables_not_refused before hest einj found injection has refuses)
table_refused before after (Check hest einj) refusal unfailed refuses cause = tables_refused before after hest einj refusal unfailed refuses cause
table_refused before after (Decode block) refusal unfailed refuses cause = absurd refuses

module _ (words : List (List ℕ)) (before after : FilesSeen) (b : HasBadMachine words before after) where
  -- there is no machine of the tables
  none_there : (found : List Source) (injection : Option (List Entry)) → HasTables before b.hest b.einj found injection → HasMachine (enabled found) injection → ⊥
  none_there found injection has machine =
      let same = found_once before b.hest b.einj found b.found injection b.injection has b.tables in
      let named = named_once before b.hest b.einj found b.found injection b.injection has b.tables in
      let one : HasMachine (enabled b.found) injection = subst (λ (f : List Source). HasMachine (enabled f) injection) same machine in
      let two : HasMachine (enabled b.found) b.injection = subst (λ (i : Option (List Entry)). HasMachine (enabled b.found) i) named one in
      b.named (two.unrefused b.error b.refused)

  pub machine_not_done : (done : Output) → IsDone before (Replay b.hest b.einj b.script) done → ⊥
  machine_not_done done (ledger, is, replayed) = none_there replayed.found replayed.injection replayed.tables replayed.behind.machine

  -- tables of which there is no machine are refused with status 8, or memory ran out
  refused_machine : (found : List Ghes) (injection : Option (List Entry)) (refusal : Refusal) → NoMachine found injection refusal → IsOrMemory 8 refusal
  refused_machine found injection (refusals.Platform error) none = inl refl
  refused_machine found injection refusals.OutOfMemory none = inr refl
  refused_machine found injection other none = absurd none

  pub machine_refused : (refusal : Refusal) → TaskCause before after (Replay b.hest b.einj b.script) refusal → IsOrMemory 8 refusal
  machine_refused refusal (inl cause) = inr (tables_memory before after b.hest b.einj b.found b.injection refusal b.no_failed_load b.tables cause)
  machine_refused refusal (inr (found, injection, has, inl none)) = refused_machine (enabled found) injection refusal none
  machine_refused refusal (inr (found, injection, has, inr (machine, cause))) = absurd (none_there found injection has machine)

module _ (words : List (List ℕ)) (before after : FilesSeen) (b : HasBadScript words before after) where
  abbrev Bad : Setup
  Bad = script_setup b.found b.injection

  -- the script has no lines
  not_read : (found : List Source) (injection : Option (List Entry)) (lines : List Line) → HasTables before b.hest b.einj found injection → HasScript before b.script (script_setup found injection) lines → ⊥
  not_read found injection lines has spelled =
      let same = found_once before b.hest b.einj found b.found injection b.injection has b.machine.tables in
      let named = named_once before b.hest b.einj found b.found injection b.injection has b.machine.tables in
      let one : HasScript before b.script (script_setup b.found injection) lines = subst (λ (f : List Source). HasScript before b.script (script_setup f injection) lines) same spelled in
      let two : HasScript before b.script Bad lines = subst (λ (i : Option (List Entry)). HasScript before b.script (script_setup b.found i) lines) named one in
      not_read_at before b.script Bad two.0 b.bytes lines b.at two.1 b.told two.2 b.refused

  pub script_not_done : (done : Output) → IsDone before (Replay b.hest b.einj b.script) done → ⊥
  script_not_done done (ledger, is, replayed) = not_read replayed.found replayed.injection replayed.behind.lines replayed.tables replayed.behind.spelled

  -- a refused script is refused with status 4, or memory ran out
  second_refused : (setup : Setup) (refusal : Refusal) → ScriptCause before after b.script setup refusal → IsOrMemory 4 refusal
  second_refused setup (refusals.Script line kind) cause = inl refl
  second_refused setup other cause = inr (load_memory before after files.Script b.script b.bytes other b.no_failed_load b.told cause)

  machine_here : (found : List Source) (injection : Option (List Entry)) → HasTables before b.hest b.einj found injection → HasMachine (enabled found) injection
  machine_here found injection has =
      let same = found_once before b.hest b.einj found b.found injection b.injection has b.machine.tables in
      let named = named_once before b.hest b.einj found b.found injection b.injection has b.machine.tables in
      subst (λ (f : List Source). HasMachine (enabled f) injection) (sym same)
      (subst (λ (i : Option (List Entry)). HasMachine (enabled b.found) i) (sym named) b.machine.machine)

  pub script_refused : (refusal : Refusal) → TaskCause before after (Replay b.hest b.einj b.script) refusal → IsOrMemory 4 refusal
  script_refused refusal (inl cause) = inr (tables_memory before after b.hest b.einj b.found b.injection refusal b.no_failed_load b.machine.tables cause)
  script_refused refusal (inr (found, injection, has, inl none)) = inr (machine_memory (enabled found) injection refusal (machine_here found injection has) none)
  script_refused refusal (inr (found, injection, has, inr (machine, inl cause))) = second_refused (script_setup found injection) refusal cause
  script_refused refusal (inr (found, injection, has, inr (machine, inr (lines, spelled, none)))) = absurd (not_read found injection lines has spelled)

-- What a task answers, by its parts: the tables, then what stands behind them, then the text.
use Rattle.std.proofs.Common.{◌≡◌, ℕ, List, Option, None, Result, Ok, Err, IfOk, IfErr, inl, inr}
use Rattle.apei_einj.specs.declared.entry.Entry.{Entry}
use Rattle.apei_hest.specs.Refusal.{enabled}
use Rattle.apei_hest.specs.declared.source.Source.{Source}
use Rattle.ghes_outside.specs.Outside.{FilesSeen}
use Rattle.ghes_replay.specs.declared.exit.InputFile.TheVariants as files
use Rattle.ghes_replay.specs.declared.exit.Refusal.{Refusal}
use Rattle.ghes_replay.specs.Check.{check_text}
use Rattle.ghes_replay.specs.Decode.{Decodes}
use Rattle.ghes_replay.specs.Done.{Output, IsDone, TaskCause, MachineCause, Does, DoesOn, TellsOn, TellsLines, RunsLines, Prints}
use Rattle.ghes_replay.specs.Loading.{HasTables, HasScript, LoadCause, TablesCause, ScriptCause, LoadsFile, LoadsTables, LoadsScript, script_setup}
use Rattle.ghes_replay.specs.Planned.{HasMachine, NoMachine}
use Rattle.ghes_replay.specs.Seen.{IsLoaded}
use Rattle.ghes_replay.specs.Task.{Replay, Check, Decode, IsTableName, IsFileOf}
use Rattle.ghes_replay.proofs.FileLemmas.{script_had_earlier, script_earlier}
use Rattle.ghes_replay.proofs.LoadLemmas.{no_loads, none_in}
use Rattle.ghes_replay.proofs.WorkLemmas.{counts_none, goes_on, stops, then_works, for_memory}
use Rattle.ghes_script.specs.declared.line.Line.{Line}

abbrev IsName : List ℕ → List ℕ → Type 0
IsName name other = other ≡ name

-- both tables of a task are accepted
abbrev Both : FilesSeen → List ℕ → List ℕ → List Source × Option (List Entry) → Type 0
Both seen hest einj tables = HasTables seen hest einj tables.0 tables.1

-- there is no machine of the tables
pub no_machine : (seen : FilesSeen) (script : List ℕ) (found : List Source) (injection : Option (List Entry)) (refusal : Refusal) → NoMachine (enabled found) injection refusal → DoesOn seen seen script found injection (Err refusal)
no_machine seen script found injection refusal none = record {
  loads = no_loads (IsName script) seen;
  unfailed = tt;
  counted = counts_none seen seen refusal (none_in seen);
  found = tt;
  refused = inl none;
}

module _ (before after : FilesSeen) (script : List ℕ) (found : List Source) (injection : Option (List Entry)) (machine : HasMachine (enabled found) injection) where
  -- the script was refused
  pub script_stops : (refusal : Refusal) → LoadsScript before after script (script_setup found injection) (Err refusal) → DoesOn before after script found injection (Err refusal)
  script_stops refusal loaded =
      stops (IsName script) (IsName script) before after (HasScript before script (script_setup found injection)) (ScriptCause before after script (script_setup found injection))
      (TellsOn before script found injection) (MachineCause before after script found injection) refusal (λ name is. is) (λ cause. inr (machine, inl cause)) loaded

  -- the lines were replayed, or not to their end
  lines_told : (lines : List Line) (done : Output) → HasScript before script (script_setup found injection) lines → TellsLines found injection lines done → TellsOn before script found injection done
  lines_told lines done spelled (ledger, is, replay) =
      (ledger, is, record { machine = machine; lines = lines; spelled = spelled; replay = replay })

  lines_done : (lines : List Line) (result : Result Output Refusal) → HasScript before script (script_setup found injection) lines → RunsLines found injection lines result → IfOk result (TellsOn before script found injection)
  lines_done lines (Ok done) spelled runs = lines_told lines done spelled runs.told
  lines_done lines (Err refusal) spelled runs = tt

  lines_stopped : (lines : List Line) (result : Result Output Refusal) → HasScript before script (script_setup found injection) lines → RunsLines found injection lines result → IfErr result (MachineCause before after script found injection)
  lines_stopped lines (Ok done) spelled runs = tt
  lines_stopped lines (Err refusal) spelled runs = inr (machine, inr (lines, spelled, runs.refused))

  pub script_goes : (lines : List Line) (result : Result Output Refusal) → LoadsScript before after script (script_setup found injection) (Ok lines) → RunsLines found injection lines result → DoesOn before after script found injection result
  script_goes lines result loaded runs =
      goes_on (IsName script) (IsName script) before after (HasScript before script (script_setup found injection)) (ScriptCause before after script (script_setup found injection))
      (TellsOn before script found injection) (MachineCause before after script found injection) lines result (λ name is. is) loaded
      (lines_done lines result loaded.found runs) (lines_stopped lines result loaded.found runs)

-- the tables were refused
pub no_tables : (before after : FilesSeen) (hest einj script : List ℕ) (refusal : Refusal) → LoadsTables before after hest einj (Err refusal) → Does before after (Replay hest einj script) (Err refusal)
no_tables before after hest einj script refusal tables =
    stops (IsTableName hest einj) (IsFileOf (Replay hest einj script)) before after (Both before hest einj) (TablesCause before after hest einj)
    (IsDone before (Replay hest einj script)) (TaskCause before after (Replay hest einj script)) refusal (λ name is. inl is) (λ cause. inl cause) tables

module _ (before middle after : FilesSeen) (hest einj script : List ℕ) (found : List Source) (injection : Option (List Entry)) (tables : LoadsTables before middle hest einj (Ok (found, injection))) where
  -- what was told behind the tables, told of the whole
  told_earlier : (done : Output) → TellsOn middle script found injection done → IsDone before (Replay hest einj script) done
  told_earlier done (ledger, is, on) = (
    ledger,
    is,
    record {
      found = found;
      injection = injection;
      tables = tables.found;
      behind = record {
        machine = on.machine;
        lines = on.lines;
        spelled = script_had_earlier before middle script (script_setup found injection) on.lines (tables.loads.contents script) on.spelled;
        replay = on.replay;
      };
    },
  )

  behind_earlier : (refusal : Refusal) → MachineCause middle after script found injection refusal → MachineCause before after script found injection refusal
  behind_earlier refusal (inl none) = inl none
  behind_earlier refusal (inr (machine, inl cause)) =
      inr (machine, inl (script_earlier before middle after script (script_setup found injection) refusal (tables.loads.contents script) tables.unfailed cause))
  behind_earlier refusal (inr (machine, inr (lines, spelled, none))) =
      inr (machine, inr (lines, script_had_earlier before middle script (script_setup found injection) lines (tables.loads.contents script) spelled, none))

  pub replay_goes : (result : Result Output Refusal) → DoesOn middle after script found injection result → Does before after (Replay hest einj script) result
  replay_goes result on =
      then_works (IsTableName hest einj) (IsName script) (IsFileOf (Replay hest einj script)) before middle after
      (Both before hest einj) (TablesCause before middle hest einj) (TellsOn middle script found injection) (IsDone before (Replay hest einj script))
      (MachineCause middle after script found injection) (TaskCause before after (Replay hest einj script)) (found, injection) result
      (λ name is. inl is) (λ name is. inr is) told_earlier
      (λ refusal cause. inr (found, injection, tables.found, behind_earlier refusal cause)) tables on

-- the tables were listed, or memory ran out
listed_by : (before : FilesSeen) (hest einj : List ℕ) (found : List Source) (injection : Option (List Entry)) (done : Output) → HasTables before hest einj found injection → (done.ledger ≡ None) × (done.text ≡ check_text found injection) → IsDone before (Check hest einj) done
listed_by before hest einj found injection done tables (none, told) =
    (none, record { found = found; table = tables.table; injection = injection; named = tables.named; told = told })

listed : (before : FilesSeen) (hest einj : List ℕ) (found : List Source) (injection : Option (List Entry)) (result : Result Output Refusal) → HasTables before hest einj found injection → Prints (λ text. text ≡ check_text found injection) result → IfOk result (IsDone before (Check hest einj))
listed before hest einj found injection (Ok done) tables prints = listed_by before hest einj found injection done tables prints.found
listed before hest einj found injection (Err refusal) tables prints = tt

pub listing_goes : (before after : FilesSeen) (hest einj : List ℕ) (found : List Source) (injection : Option (List Entry)) (result : Result Output Refusal) → LoadsTables before after hest einj (Ok (found, injection)) → Prints (λ text. text ≡ check_text found injection) result → Does before after (Check hest einj) result
listing_goes before after hest einj found injection result tables prints =
    goes_on (IsTableName hest einj) (IsFileOf (Check hest einj)) before after (Both before hest einj) (TablesCause before after hest einj)
    (IsDone before (Check hest einj)) (TaskCause before after (Check hest einj)) (found, injection) result (λ name is. is) tables
    (listed before hest einj found injection result tables.found prints)
    (for_memory (TaskCause before after (Check hest einj)) result (inl tt) prints.refused)

-- a table was refused
pub listing_refused : (before after : FilesSeen) (hest einj : List ℕ) (refusal : Refusal) → LoadsTables before after hest einj (Err refusal) → Does before after (Check hest einj) (Err refusal)
listing_refused before after hest einj refusal tables =
    stops (IsTableName hest einj) (IsFileOf (Check hest einj)) before after (Both before hest einj) (TablesCause before after hest einj)
    (IsDone before (Check hest einj)) (TaskCause before after (Check hest einj)) refusal (λ name is. is) (λ cause. cause) tables

-- the block was printed, or memory ran out, or its file was refused
printed_by : (before : FilesSeen) (block bytes : List ℕ) (done : Output) → IsLoaded before files.Block block bytes → (done.ledger ≡ None) × Decodes bytes done.text → IsDone before (Decode block) done
printed_by before block bytes done loaded (none, told) = (none, record { bytes = bytes; loaded = loaded; told = told })

printed : (before : FilesSeen) (block bytes : List ℕ) (result : Result Output Refusal) → IsLoaded before files.Block block bytes → Prints (Decodes bytes) result → IfOk result (IsDone before (Decode block))
printed before block bytes (Ok done) loaded prints = printed_by before block bytes done loaded prints.found
printed before block bytes (Err refusal) loaded prints = tt

pub block_goes : (before after : FilesSeen) (block bytes : List ℕ) (result : Result Output Refusal) → LoadsFile before after files.Block block (Ok bytes) → Prints (Decodes bytes) result → Does before after (Decode block) result
block_goes before after block bytes result loaded prints =
    goes_on (IsName block) (IsFileOf (Decode block)) before after (IsLoaded before files.Block block) (LoadCause before after files.Block block)
    (IsDone before (Decode block)) (TaskCause before after (Decode block)) bytes result (λ name is. is) loaded
    (printed before block bytes result loaded.found prints) (for_memory (TaskCause before after (Decode block)) result tt prints.refused)

pub block_refused : (before after : FilesSeen) (block : List ℕ) (refusal : Refusal) → LoadsFile before after files.Block block (Err refusal) → Does before after (Decode block) (Err refusal)
block_refused before after block refusal loaded =
    stops (IsName block) (IsFileOf (Decode block)) before after (IsLoaded before files.Block block) (LoadCause before after files.Block block)
    (IsDone before (Decode block)) (TaskCause before after (Decode block)) refusal (λ name is. is) (λ cause. cause) loaded

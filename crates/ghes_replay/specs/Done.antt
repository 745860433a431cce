-- What it means that a task is done, and why one is refused.
use Rattle.std.specs.Prelude.{◌≡◌, ◌⊎◌, ℕ, Bool, false, if◌then◌else◌, List, map, Option, Some, None, Result, IfOk, IfErr}
use Rattle.std.specs.List.{list_any}
use Rattle.apei_einj.specs.declared.entry.Entry.{Entry}
use Rattle.apei_hest.specs.Refusal.{enabled}
use Rattle.apei_hest.specs.declared.source.Source.{Source}
use Rattle.ghes_outside.specs.Outside.{FilesSeen}
use Rattle.ghes_replay.specs.declared.exit.InputFile.TheVariants as files
use Rattle.ghes_replay.specs.declared.exit.Refusal.{Refusal}
use Rattle.ghes_replay.specs.declared.exit.Refusal.TheVariants as refusals
use Rattle.ghes_replay.specs.Check.{check_text}
use Rattle.ghes_replay.specs.Decode.{Decodes}
use Rattle.ghes_ledger.specs.Kept.{Kept}
use Rattle.ghes_replay.specs.Planned.{HasMachine, IsReplayOf, NoMachine, NoReplay, text_of}
use Rattle.ghes_replay.specs.Loading.{HasHest, HasTables, HasScript, HasInjection, LoadCause, TablesCause, ScriptCause, Works, script_setup}
use Rattle.ghes_replay.specs.Seen.{IsLoaded}
use Rattle.ghes_replay.specs.Task.{Task, Replay, Check, Decode, IsFileOf}
use Rattle.ghes_script.specs.declared.line.Line.{Line}
use Rattle.ghes_setup.specs.declared.rig.Rig.{Rig}

-- what a task gives: the ledger, which a replay alone has, and the whole text
pub record Output : Type 0 where
  pub ledger : Option Kept
  pub text : List ℕ

abbrev pub output : Option Kept → List ℕ → Output
output ledger text = record { ledger = ledger; text = text }

-- A script was replayed on tables: there is a machine of them, the script is one of their sources, and its lines were replayed on that
-- machine, to this ledger and its text.
pub record IsReplayedOn (seen : FilesSeen) (script : List ℕ) (found : List Source) (injection : Option (List Entry)) (ledger : Kept) (text : List ℕ) : Type 0 where
  pub machine : HasMachine (enabled found) injection
  pub lines : List Line
  pub spelled : HasScript seen script (script_setup found injection) lines
  pub replay : IsReplayOf (enabled found) injection lines ledger text

-- The files were replayed: the tables are accepted, and the script was replayed on them.
pub record IsReplayed (seen : FilesSeen) (hest einj script : List ℕ) (ledger : Kept) (text : List ℕ) : Type 0 where
  pub found : List Source
  pub injection : Option (List Entry)
  pub tables : HasTables seen hest einj found injection
  pub behind : IsReplayedOn seen script found injection ledger text

-- The tables were listed: they are accepted, and the text is the listing of the sources and of the entries.
pub record IsChecked (seen : FilesSeen) (hest einj text : List ℕ) : Type 0 where
  pub found : List Source
  pub table : HasHest seen hest found
  pub injection : Option (List Entry)
  pub named : HasInjection seen einj injection
  pub told : text ≡ check_text found injection

-- The block of the file was decoded: its bytes are judged, and the text is that of the block or of the reason.
pub record IsDecoded (seen : FilesSeen) (block text : List ℕ) : Type 0 where
  pub bytes : List ℕ
  pub loaded : IsLoaded seen files.Block block bytes
  pub told : Decodes bytes text

-- the task was done, with this ledger and this text
abbrev pub IsDone : FilesSeen → Task → Output → Type 0
IsDone before (Replay hest einj script) done = (ledger : Kept) × (done.ledger ≡ Some ledger) × IsReplayed before hest einj script ledger done.text
IsDone before (Check hest einj) done = (done.ledger ≡ None) × IsChecked before hest einj done.text
IsDone before (Decode block) done = (done.ledger ≡ None) × IsDecoded before block done.text

-- why lines of a script are not replayed
abbrev pub LinesCause : FilesSeen → List ℕ → List Source → Option (List Entry) → Refusal → Type 0
LinesCause before script found injection refusal =
    (lines : List Line) × HasScript before script (script_setup found injection) lines × NoReplay (enabled found) injection lines refusal

-- why a replay is refused behind its tables: there is no machine of them, the script is refused, or its lines are not replayed
abbrev pub MachineCause : FilesSeen → FilesSeen → List ℕ → List Source → Option (List Entry) → Refusal → Type 0
MachineCause before after script found injection refusal =
    NoMachine (enabled found) injection refusal
    ⊎ (HasMachine (enabled found) injection
    × (ScriptCause before after script (script_setup found injection) refusal ⊎ LinesCause before script found injection refusal))

-- the tables of a replay are accepted, and it is refused behind them
abbrev pub ReplayCause : FilesSeen → FilesSeen → List ℕ → List ℕ → List ℕ → Refusal → Type 0
ReplayCause before after hest einj script refusal =
    (found : List Source) × (injection : Option (List Entry)) × HasTables before hest einj found injection
    × MachineCause before after script found injection refusal

-- why a task is refused: for its tables, or behind them, or for its block
abbrev pub TaskCause : FilesSeen → FilesSeen → Task → Refusal → Type 0
TaskCause before after (Replay hest einj script) refusal = TablesCause before after hest einj refusal ⊎ ReplayCause before after hest einj script refusal
TaskCause before after (Check hest einj) refusal = TablesCause before after hest einj refusal
TaskCause before after (Decode block) refusal = LoadCause before after files.Block block refusal

-- what a task answers
abbrev pub Does : FilesSeen → FilesSeen → Task → Result Output Refusal → Type 0
Does before after task result = Works (IsFileOf task) before after (IsDone before task) (TaskCause before after task) result

-- what a replay on tables gives
abbrev pub TellsOn : FilesSeen → List ℕ → List Source → Option (List Entry) → Output → Type 0
TellsOn before script found injection done =
    (ledger : Kept) × (done.ledger ≡ Some ledger) × IsReplayedOn before script found injection ledger done.text

-- what a replay on tables answers
abbrev pub DoesOn : FilesSeen → FilesSeen → List ℕ → List Source → Option (List Entry) → Result Output Refusal → Type 0
DoesOn before after script found injection result =
    Works (λ other. other ≡ script) before after (TellsOn before script found injection) (MachineCause before after script found injection) result

-- what a replay of lines gives: a lawful ledger, and its text
abbrev pub TellsLines : List Source → Option (List Entry) → List Line → Output → Type 0
TellsLines found injection lines done =
    (ledger : Kept) × (done.ledger ≡ Some ledger) × IsReplayOf (enabled found) injection lines ledger done.text

-- the ledger of a run of lines on a machine that is left so, and its text
abbrev pub IsToldOf : Rig → List Line → Kept → Output → Type 0
IsToldOf rig lines ledger done = (done.ledger ≡ Some ledger) × (done.text ≡ text_of rig.machine lines rig.ports.items ledger)

-- what a replay of lines answers
pub record RunsLines (found : List Source) (injection : Option (List Entry)) (lines : List Line) (result : Result Output Refusal) : Type 0 where
  pub told : IfOk result (TellsLines found injection lines)
  pub refused : IfErr result (NoReplay (enabled found) injection lines)

-- what a text without a ledger answers; only memory can be wanting
pub record Prints (IsText : List ℕ → Type 0) (result : Result Output Refusal) : Type 0 where
  pub found : IfOk result (λ done. (done.ledger ≡ None) × IsText done.text)
  pub refused : IfErr result (λ refusal. refusal ≡ refusals.OutOfMemory)

-- the ledger has a fatal block
abbrev pub has_fatal : Option Kept → Bool
has_fatal None = false
has_fatal (Some kept) = list_any (λ entry. entry.fatal) kept.panic

-- the status of what was done: 1 where the ledger has a fatal block, and else 0
abbrev pub done_status : Option Kept → ℕ
done_status ledger = if has_fatal ledger then 1 else 0

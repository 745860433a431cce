-- Runs whose files are told, and what they are then bound to answer.
use Rattle.std.specs.Prelude.{◌≡◌, ◌≢◌, ◌≤◌, ◌⊎◌, ℕ, List, length, codes, Option, Some, None, Ok, Err}
use Rattle.apei_einj.specs.Table.{einj_refusal}
use Rattle.apei_einj.specs.declared.entry.Entry.{Entry}
use Rattle.apei_einj.specs.declared.error.EinjError.{EinjError}
use Rattle.apei_hest.specs.Hest.{Judges}
use Rattle.apei_hest.specs.Refusal.{enabled}
use Rattle.apei_hest.specs.declared.error.HestError.{HestError}
use Rattle.apei_hest.specs.declared.source.Source.{Source}
use Rattle.fw_map.specs.Map.{IsRefusedWith}
use Rattle.fw_map.specs.declared.error.FwError.{FwError}
use Rattle.fw_map.specs.declared.error.FwError.TheVariants.{OutOfMemory}
use Rattle.ghes_outside.specs.Outside.{FilesSeen, Rose}
use Rattle.ghes_replay.specs.Loading.{AcceptsEinj, script_setup}
use Rattle.ghes_replay.specs.Planned.{HasMachine, HasTooMany}
use Rattle.ghes_replay.specs.declared.exit.InputFile.{InputFile}
use Rattle.ghes_replay.specs.declared.exit.InputFile.TheVariants as files
use Rattle.ghes_replay.specs.Seen.{Outside, limit_for}
use Rattle.ghes_replay.specs.Task.{Task, Replay, Check, Decode, IsTask, IsEinjName}
use Rattle.ghes_script.specs.Script.{BadLine, IsScript, IsRefusedAt}
use Rattle.ghes_script.specs.Setup.{Setup}
use Rattle.ghes_script.specs.declared.line.Line.{Line}

-- A file is told, and within its limit.
pub record IsTold (seen : FilesSeen) (file : InputFile) (name bytes : List ℕ) : Type 0 where
  pub told : seen.contents name ≡ Some bytes
  pub within : length bytes ≤ limit_for file

-- a told table is accepted with these sources
abbrev pub TellsHest : FilesSeen → List ℕ → List Source → Type 0
TellsHest seen name found = (bytes : List ℕ) × IsTold seen files.Hest name bytes × Judges bytes (Ok found)

-- a told injection table is accepted with these entries, or the word names none
abbrev pub TellsInjection : FilesSeen → List ℕ → Option (List Entry) → Type 0
TellsInjection seen name None = name ≡ codes "-"
TellsInjection seen name (Some entries) = IsEinjName name × (bytes : List ℕ) × IsTold seen files.Einj name bytes × AcceptsEinj bytes entries

-- The tables of a task are told and accepted with these sources and entries.
pub record TellsTables (seen : FilesSeen) (hest einj : List ℕ) (found : List Source) (injection : Option (List Entry)) : Type 0 where
  pub table : TellsHest seen hest found
  pub named : TellsInjection seen einj injection

-- The tables are told and accepted, and there is a machine of them.
pub record TellsMachine (seen : FilesSeen) (hest einj : List ℕ) (found : List Source) (injection : Option (List Entry)) : Type 0 where
  pub tables : TellsTables seen hest einj found injection
  pub machine : HasMachine (enabled found) injection

-- a told script has these lines
abbrev pub TellsScript : FilesSeen → List ℕ → Setup → List Line → Type 0
TellsScript seen name setup lines = (bytes : List ℕ) × IsTold seen files.Script name bytes × IsScript setup bytes lines

-- The files of a replay are told and accepted, there is a machine of its tables, and the script makes no block too many.
pub record AcceptsReplay (seen : FilesSeen) (hest einj script : List ℕ) : Type 0 where
  pub found : List Source
  pub injection : Option (List Entry)
  pub machine : TellsMachine seen hest einj found injection
  pub lines : List Line
  pub spelled : TellsScript seen script (script_setup found injection) lines
  pub few : (number : ℕ) → HasTooMany (enabled found) injection lines number → ⊥

-- both tables of a listing are told and accepted, or the first one is and there is no other
abbrev pub TellsBoth : FilesSeen → List ℕ → List ℕ → Type 0
TellsBoth seen hest einj = (found : List Source) × (injection : Option (List Entry)) × TellsTables seen hest einj found injection

-- all files of a task are told and accepted; the file of a block is so within its limit
abbrev pub Accepts : FilesSeen → Task → Type 0
Accepts seen (Replay hest einj script) = AcceptsReplay seen hest einj script
Accepts seen (Check hest einj) = TellsBoth seen hest einj
Accepts seen (Decode block) = (bytes : List ℕ) × IsTold seen files.Block block bytes

-- a told table is refused
abbrev pub RefusesHest : FilesSeen → List ℕ → Type 0
RefusesHest seen name = (bytes : List ℕ) × IsTold seen files.Hest name bytes × (error : HestError) × Judges bytes (Err error)

-- a told injection table is refused
abbrev pub RefusesEinj : FilesSeen → List ℕ → Type 0
RefusesEinj seen name =
    IsEinjName name × (bytes : List ℕ) × IsTold seen files.Einj name bytes × (error : EinjError) × (einj_refusal bytes ≡ Some error)

-- a told table is accepted, and the injection table beside it is told and refused
abbrev pub RefusesSecond : FilesSeen → List ℕ → List ℕ → Type 0
RefusesSecond seen hest einj = (found : List Source) × TellsHest seen hest found × RefusesEinj seen einj

-- one of two tables is told and refused, the second one behind an accepted first
abbrev pub RefusesTables : FilesSeen → List ℕ → List ℕ → Type 0
RefusesTables seen hest einj = RefusesHest seen hest ⊎ RefusesSecond seen hest einj

-- a table of a task is told and refused; the text of a block has no table
abbrev pub RefusesTable : FilesSeen → Task → Type 0
RefusesTable seen (Replay hest einj script) = RefusesTables seen hest einj
RefusesTable seen (Check hest einj) = RefusesTables seen hest einj
RefusesTable seen (Decode block) = ⊥

-- The words ask for a task whose table is told and refused, and no load failed.
pub record HasBadTable (words : List (List ℕ)) (before after : FilesSeen) : Type 0 where
  pub task : Task
  pub asked : IsTask words task
  pub table : RefusesTable before task
  pub no_failed_load : Rose before.faults after.faults → ⊥

-- The words ask for a replay on tables that are told and accepted, and of which there is no machine, and no load failed.
pub record HasBadMachine (words : List (List ℕ)) (before after : FilesSeen) : Type 0 where
  pub hest : List ℕ
  pub einj : List ℕ
  pub script : List ℕ
  pub asked : IsTask words (Replay hest einj script)
  pub found : List Source
  pub injection : Option (List Entry)
  pub tables : TellsTables before hest einj found injection
  pub error : FwError
  pub named : error ≢ OutOfMemory
  pub refused : IsRefusedWith (enabled found) injection error
  pub no_failed_load : Rose before.faults after.faults → ⊥

-- The words ask for a replay of a script that is told and refused, on tables that are told and of which there is a machine, and no load
-- failed.
pub record HasBadScript (words : List (List ℕ)) (before after : FilesSeen) : Type 0 where
  pub hest : List ℕ
  pub einj : List ℕ
  pub script : List ℕ
  pub asked : IsTask words (Replay hest einj script)
  pub found : List Source
  pub injection : Option (List Entry)
  pub machine : TellsMachine before hest einj found injection
  pub bytes : List ℕ
  pub told : IsTold before files.Script script bytes
  pub at : BadLine
  pub refused : IsRefusedAt (script_setup found injection) bytes at
  pub no_failed_load : Rose before.faults after.faults → ⊥

-- The words ask for a task whose files are told and accepted, and no load and no put failed.
pub record IsAccepted (words : List (List ℕ)) (before after : Outside) : Type 0 where
  pub task : Task
  pub asked : IsTask words task
  pub accepted : Accepts before.files task
  pub no_failed_load : Rose before.files.faults after.files.faults → ⊥
  pub no_failed_put : Rose before.out.faults after.out.faults → ⊥

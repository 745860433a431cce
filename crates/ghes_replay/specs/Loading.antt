-- What the work on one file answers, and why it is refused.
use Rattle.std.specs.Prelude.{◌≡◌, ◌⊎◌, ℕ, List, [], ◌∷◌, codes, length, Option, Some, None, is_some, Result, Ok, Err, IfOk, IfErr, OnOk}
use Rattle.apei_einj.specs.Table.{einj_entries, einj_refusal}
use Rattle.apei_einj.specs.declared.entry.Entry.{Entry}
use Rattle.apei_hest.specs.Hest.{Judges}
use Rattle.apei_hest.specs.Refusal.{enabled}
use Rattle.apei_hest.specs.declared.source.Source.{Source}
use Rattle.ghes_outside.specs.Outside.{FilesSeen, Rose, IsLonger}
use Rattle.ghes_outside.specs.declared.files.LoadError.{LoadError}
use Rattle.ghes_outside.specs.declared.files.LoadError.TheVariants as loads
use Rattle.ghes_replay.specs.declared.exit.InputFile.{InputFile}
use Rattle.ghes_replay.specs.declared.exit.InputFile.TheVariants as files
use Rattle.ghes_replay.specs.declared.exit.Refusal.{Refusal}
use Rattle.ghes_replay.specs.declared.exit.Refusal.TheVariants as refusals
use Rattle.ghes_replay.specs.Seen.{limit_for, AddsNames, Loads, NoneFailed, IsLoaded}
use Rattle.ghes_replay.specs.Task.{IsEinjName, IsTableName}
use Rattle.ghes_script.specs.Script.{IsScript, IsRefusedAt}
use Rattle.ghes_script.specs.Setup.{Setup}
use Rattle.ghes_script.specs.declared.line.Line.{Line}
use Rattle.ghes_setup.specs.Machine.{setup_for}

-- a file has an accepted table with these sources
abbrev pub HasHest : FilesSeen → List ℕ → List Source → Type 0
HasHest seen name found = (bytes : List ℕ) × IsLoaded seen files.Hest name bytes × Judges bytes (Ok found)

-- bytes are an accepted injection table with these entries
abbrev pub AcceptsEinj : List ℕ → List Entry → Type 0
AcceptsEinj bytes entries = (einj_refusal bytes ≡ None) × (entries ≡ einj_entries bytes)

-- a file has an accepted injection table with these entries
abbrev pub HasEinj : FilesSeen → List ℕ → List Entry → Type 0
HasEinj seen name entries = (bytes : List ℕ) × IsLoaded seen files.Einj name bytes × AcceptsEinj bytes entries

-- the word stands for no injection table, or names a file that has an accepted one with these entries
abbrev pub HasInjection : FilesSeen → List ℕ → Option (List Entry) → Type 0
HasInjection seen name None = name ≡ codes "-"
HasInjection seen name (Some entries) = IsEinjName name × HasEinj seen name entries

-- The files of these names have accepted tables with these sources and entries.
pub record HasTables (seen : FilesSeen) (hest einj : List ℕ) (found : List Source) (injection : Option (List Entry)) : Type 0 where
  pub table : HasHest seen hest found
  pub named : HasInjection seen einj injection

-- for what a script is read behind these tables
abbrev pub script_setup : List Source → Option (List Entry) → Setup
script_setup found injection = setup_for (enabled found) (is_some injection)

-- a file has a script of these lines
abbrev pub HasScript : FilesSeen → List ℕ → Setup → List Line → Type 0
HasScript seen name setup lines = (bytes : List ℕ) × IsLoaded seen files.Script name bytes × IsScript setup bytes lines

-- Why a file is not loaded. Want of memory has no cause.
abbrev pub LoadCause : FilesSeen → FilesSeen → InputFile → List ℕ → Refusal → Type 0
LoadCause before after file name (refusals.Load which loads.Failed) =
    (which ≡ file) × Rose before.faults after.faults × AddsNames before after (name ∷ [])
LoadCause before after file name (refusals.Load which loads.TooLong) = (which ≡ file) × IsLonger (before.contents name) (limit_for file)
LoadCause before after file name refusals.OutOfMemory = Unit {0}
LoadCause before after file name other = ⊥

-- why a table is refused: what is loaded is judged, or it is not loaded
abbrev pub HestCause : FilesSeen → FilesSeen → List ℕ → Refusal → Type 0
HestCause before after name (refusals.Hest error) = (bytes : List ℕ) × IsLoaded before files.Hest name bytes × Judges bytes (Err error)
HestCause before after name other = LoadCause before after files.Hest name other

-- why an injection table is refused
abbrev pub EinjCause : FilesSeen → FilesSeen → List ℕ → Refusal → Type 0
EinjCause before after name (refusals.Einj error) =
    (bytes : List ℕ) × IsLoaded before files.Einj name bytes × (einj_refusal bytes ≡ Some error)
EinjCause before after name other = LoadCause before after files.Einj name other

-- why an injection table is refused behind a table: that one is accepted, and a file is named
abbrev pub SecondEinjCause : FilesSeen → FilesSeen → List ℕ → List ℕ → Refusal → Type 0
SecondEinjCause before after hest einj refusal =
    (found : List Source) × HasHest before hest found × IsEinjName einj × EinjCause before after einj refusal

-- why one of two tables is refused
abbrev pub TablesCause : FilesSeen → FilesSeen → List ℕ → List ℕ → Refusal → Type 0
TablesCause before after hest einj refusal = HestCause before after hest refusal ⊎ SecondEinjCause before after hest einj refusal

-- why a script is refused
abbrev pub ScriptCause : FilesSeen → FilesSeen → List ℕ → Setup → Refusal → Type 0
ScriptCause before after name setup (refusals.Script line kind) =
    (bytes : List ℕ) × IsLoaded before files.Script name bytes × IsRefusedAt setup bytes (record { number = line; kind = kind })
ScriptCause before after name setup other = LoadCause before after files.Script name other

-- No load failed, unless the refusal says so, or is for want of memory.
abbrev pub CountsFailed : FilesSeen → FilesSeen → Refusal → Type 0
CountsFailed before after (refusals.Load file loads.Failed) = Unit {0}
CountsFailed before after refusals.OutOfMemory = Unit {0}
CountsFailed before after other = NoneFailed before after

-- What work on files answers: what it found, or the cause of its refusal. Only failed loads of names of a kind are noted.
pub record Works {T : Type 0} (IsName : List ℕ → Type 0) (before after : FilesSeen) (IsFound : T → Type 0) (IsCause : Refusal → Type 0) (result : Result T Refusal) : Type 0 where
  pub loads : Loads IsName before after
  pub unfailed : OnOk result (NoneFailed before after)
  pub counted : IfErr result (CountsFailed before after)
  pub found : IfOk result IsFound
  pub refused : IfErr result IsCause

-- what loading a file answers
abbrev pub LoadsFile : FilesSeen → FilesSeen → InputFile → List ℕ → Result (List ℕ) Refusal → Type 0
LoadsFile before after file name result =
    Works (λ other. other ≡ name) before after (IsLoaded before file name) (LoadCause before after file name) result

-- what loading a table answers
abbrev pub LoadsHest : FilesSeen → FilesSeen → List ℕ → Result (List Source) Refusal → Type 0
LoadsHest before after name result = Works (λ other. other ≡ name) before after (HasHest before name) (HestCause before after name) result

-- what a word answers that may name an injection table: a file is read, and refused, only where it does
abbrev pub LoadsInjection : FilesSeen → FilesSeen → List ℕ → Result (Option (List Entry)) Refusal → Type 0
LoadsInjection before after name result =
    Works (λ other. (other ≡ name) × IsEinjName name) before after (HasInjection before name) (λ refusal. IsEinjName name × EinjCause before after name refusal) result

-- what loading two tables answers
abbrev pub LoadsTables : FilesSeen → FilesSeen → List ℕ → List ℕ → Result (List Source × Option (List Entry)) Refusal → Type 0
LoadsTables before after hest einj result =
    Works (IsTableName hest einj) before after (λ tables. HasTables before hest einj tables.0 tables.1) (TablesCause before after hest einj) result

-- what loading a script answers
abbrev pub LoadsScript : FilesSeen → FilesSeen → List ℕ → Setup → Result (List Line) Refusal → Type 0
LoadsScript before after name setup result =
    Works (λ other. other ≡ name) before after (HasScript before name setup) (ScriptCause before after name setup) result

-- what reading a table answers
abbrev pub ReadsHest : List ℕ → Result (List Source) Refusal → Type 0
ReadsHest bytes (Ok found) = Judges bytes (Ok found)
ReadsHest bytes (Err (refusals.Hest error)) = Judges bytes (Err error)
ReadsHest bytes (Err refusals.OutOfMemory) = Unit {0}
ReadsHest bytes (Err other) = ⊥

-- what reading an injection table answers that a word names
abbrev pub ReadsEinj : List ℕ → Result (Option (List Entry)) Refusal → Type 0
ReadsEinj bytes (Ok None) = ⊥
ReadsEinj bytes (Ok (Some entries)) = AcceptsEinj bytes entries
ReadsEinj bytes (Err (refusals.Einj error)) = einj_refusal bytes ≡ Some error
ReadsEinj bytes (Err refusals.OutOfMemory) = Unit {0}
ReadsEinj bytes (Err other) = ⊥

-- what reading a script answers
abbrev pub ReadsScript : Setup → List ℕ → Result (List Line) Refusal → Type 0
ReadsScript setup bytes (Ok lines) = IsScript setup bytes lines
ReadsScript setup bytes (Err (refusals.Script line kind)) = IsRefusedAt setup bytes (record { number = line; kind = kind })
ReadsScript setup bytes (Err refusals.OutOfMemory) = Unit {0}
ReadsScript setup bytes (Err other) = ⊥

-- the refusal for a file that was not loaded
abbrev pub load_refusal : InputFile → LoadError → Refusal
load_refusal file loads.OutOfMemory = refusals.OutOfMemory
load_refusal file why = refusals.Load file why

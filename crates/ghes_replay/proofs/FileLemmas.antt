-- The work on one file: what is loaded is read, or it is refused.
use Rattle.std.proofs.Common.{◌≡◌, ℕ, List, codes, Option, Some, None, Result, Ok, Err, IfOk, IfErr, inl, inr}
use Rattle.apei_einj.specs.declared.entry.Entry.{Entry}
use Rattle.apei_hest.specs.declared.source.Source.{Source}
use Rattle.ghes_outside.specs.Outside.{FilesSeen}
use Rattle.ghes_replay.specs.declared.exit.InputFile.TheVariants as files
use Rattle.ghes_replay.specs.declared.exit.Refusal.{Refusal}
use Rattle.ghes_replay.specs.declared.exit.Refusal.TheVariants as refusals
use Rattle.ghes_replay.specs.Loading.{HasHest, HasTables, HasInjection, HasScript, LoadCause, HestCause, EinjCause, ScriptCause, LoadsFile, LoadsHest, LoadsInjection, LoadsTables, LoadsScript, ReadsHest, ReadsEinj, ReadsScript}
use Rattle.ghes_replay.specs.Seen.{IsLoaded, NoneFailed}
use Rattle.ghes_replay.specs.Task.{IsEinjName, IsTableName}
use Rattle.ghes_script.specs.Setup.{Setup}
use Rattle.ghes_script.specs.declared.line.Line.{Line}
use Rattle.ghes_replay.proofs.LoadLemmas.{no_loads, none_in, loads_weaker, loaded_earlier, cause_earlier}
use Rattle.ghes_replay.proofs.WorkLemmas.{goes_on, stops, then_works}

abbrev IsName : List ℕ → List ℕ → Type 0
IsName name other = other ≡ name

-- a table that is read
hest_found : (before : FilesSeen) (name bytes : List ℕ) (result : Result (List Source) Refusal) → IsLoaded before files.Hest name bytes → ReadsHest bytes result → IfOk result (HasHest before name)
hest_found before name bytes (Ok found) loaded reads = (bytes, loaded, reads)
hest_found before name bytes (Err refusal) loaded reads = tt

hest_cause : (before after : FilesSeen) (name bytes : List ℕ) (result : Result (List Source) Refusal) → IsLoaded before files.Hest name bytes → ReadsHest bytes result → IfErr result (HestCause before after name)
hest_cause before after name bytes (Ok found) loaded reads = tt
hest_cause before after name bytes (Err (refusals.Hest error)) loaded reads = (bytes, loaded, reads)
hest_cause before after name bytes (Err refusals.OutOfMemory) loaded reads = tt
hest_cause before after name bytes (Err other) loaded reads = absurd reads

pub hest_read : (before after : FilesSeen) (name bytes : List ℕ) (result : Result (List Source) Refusal) → LoadsFile before after files.Hest name (Ok bytes) → ReadsHest bytes result → LoadsHest before after name result
hest_read before after name bytes result loaded reads =
    goes_on (IsName name) (IsName name) before after (IsLoaded before files.Hest name) (LoadCause before after files.Hest name)
    (HasHest before name) (HestCause before after name) bytes result (λ other is. is) loaded
    (hest_found before name bytes result loaded.found reads) (hest_cause before after name bytes result loaded.found reads)

hest_of_load : (before after : FilesSeen) (name : List ℕ) (refusal : Refusal) → LoadCause before after files.Hest name refusal → HestCause before after name refusal
hest_of_load before after name (refusals.Hest error) cause = absurd cause
hest_of_load before after name other cause = cause

pub hest_refused : (before after : FilesSeen) (name : List ℕ) (refusal : Refusal) → LoadsFile before after files.Hest name (Err refusal) → LoadsHest before after name (Err refusal)
hest_refused before after name refusal loaded =
    stops (IsName name) (IsName name) before after (IsLoaded before files.Hest name) (LoadCause before after files.Hest name)
    (HasHest before name) (HestCause before after name) refusal (λ other is. is) (hest_of_load before after name refusal) loaded

-- the word of an injection table: none is named, or the file is read, or it is refused
abbrev IsNamed : List ℕ → List ℕ → Type 0
IsNamed name other = (other ≡ name) × IsEinjName name

abbrev NamedCause : FilesSeen → FilesSeen → List ℕ → Refusal → Type 0
NamedCause before after name refusal = IsEinjName name × EinjCause before after name refusal

pub none_named : (seen : FilesSeen) (name : List ℕ) → name ≡ codes "-" → LoadsInjection seen seen name (Ok None)
none_named seen name none = record {
  loads = no_loads (IsNamed name) seen;
  unfailed = none_in seen;
  counted = tt;
  found = none;
  refused = tt;
}

named_found : (before : FilesSeen) (name bytes : List ℕ) (result : Result (Option (List Entry)) Refusal) → IsEinjName name → IsLoaded before files.Einj name bytes → ReadsEinj bytes result → IfOk result (HasInjection before name)
named_found before name bytes (Ok None) named loaded reads = absurd reads
named_found before name bytes (Ok (Some entries)) named loaded reads = (named, (bytes, loaded, reads))
named_found before name bytes (Err refusal) named loaded reads = tt

named_cause : (before after : FilesSeen) (name bytes : List ℕ) (result : Result (Option (List Entry)) Refusal) → IsEinjName name → IsLoaded before files.Einj name bytes → ReadsEinj bytes result → IfErr result (NamedCause before after name)
named_cause before after name bytes (Ok injection) named loaded reads = tt
named_cause before after name bytes (Err (refusals.Einj error)) named loaded reads = (named, (bytes, loaded, reads))
named_cause before after name bytes (Err refusals.OutOfMemory) named loaded reads = (named, tt)
named_cause before after name bytes (Err other) named loaded reads = absurd reads

pub named_read : (before after : FilesSeen) (name bytes : List ℕ) (result : Result (Option (List Entry)) Refusal) → IsEinjName name → LoadsFile before after files.Einj name (Ok bytes) → ReadsEinj bytes result → LoadsInjection before after name result
named_read before after name bytes result named loaded reads =
    goes_on (IsName name) (IsNamed name) before after (IsLoaded before files.Einj name) (LoadCause before after files.Einj name)
    (HasInjection before name) (NamedCause before after name) bytes result (λ other is. (is, named)) loaded
    (named_found before name bytes result named loaded.found reads) (named_cause before after name bytes result named loaded.found reads)

einj_of_load : (before after : FilesSeen) (name : List ℕ) (refusal : Refusal) → LoadCause before after files.Einj name refusal → EinjCause before after name refusal
einj_of_load before after name (refusals.Einj error) cause = absurd cause
einj_of_load before after name other cause = cause

pub named_refused : (before after : FilesSeen) (name : List ℕ) (refusal : Refusal) → IsEinjName name → LoadsFile before after files.Einj name (Err refusal) → LoadsInjection before after name (Err refusal)
named_refused before after name refusal named loaded =
    stops (IsName name) (IsNamed name) before after (IsLoaded before files.Einj name) (LoadCause before after files.Einj name)
    (HasInjection before name) (NamedCause before after name) refusal (λ other is. (is, named)) (λ cause. (named, einj_of_load before after name refusal cause)) loaded

-- a script that is read
lines_found : (before : FilesSeen) (name bytes : List ℕ) (setup : Setup) (result : Result (List Line) Refusal) → IsLoaded before files.Script name bytes → ReadsScript setup bytes result → IfOk result (HasScript before name setup)
lines_found before name bytes setup (Ok lines) loaded spelled = (bytes, loaded, spelled)
lines_found before name bytes setup (Err refusal) loaded reads = tt

lines_cause : (before after : FilesSeen) (name bytes : List ℕ) (setup : Setup) (result : Result (List Line) Refusal) → IsLoaded before files.Script name bytes → ReadsScript setup bytes result → IfErr result (ScriptCause before after name setup)
lines_cause before after name bytes setup (Ok lines) loaded reads = tt
lines_cause before after name bytes setup (Err (refusals.Script line kind)) loaded reads = (bytes, loaded, reads)
lines_cause before after name bytes setup (Err refusals.OutOfMemory) loaded reads = tt
lines_cause before after name bytes setup (Err other) loaded reads = absurd reads

pub lines_read : (before after : FilesSeen) (name bytes : List ℕ) (setup : Setup) (result : Result (List Line) Refusal) → LoadsFile before after files.Script name (Ok bytes) → ReadsScript setup bytes result → LoadsScript before after name setup result
lines_read before after name bytes setup result loaded reads =
    goes_on (IsName name) (IsName name) before after (IsLoaded before files.Script name) (LoadCause before after files.Script name)
    (HasScript before name setup) (ScriptCause before after name setup) bytes result (λ other is. is) loaded
    (lines_found before name bytes setup result loaded.found reads) (lines_cause before after name bytes setup result loaded.found reads)

script_of_load : (before after : FilesSeen) (name : List ℕ) (setup : Setup) (refusal : Refusal) → LoadCause before after files.Script name refusal → ScriptCause before after name setup refusal
script_of_load before after name setup (refusals.Script line kind) cause = absurd cause
script_of_load before after name setup other cause = cause

pub lines_refused : (before after : FilesSeen) (name : List ℕ) (setup : Setup) (refusal : Refusal) → LoadsFile before after files.Script name (Err refusal) → LoadsScript before after name setup (Err refusal)
lines_refused before after name setup refusal loaded =
    stops (IsName name) (IsName name) before after (IsLoaded before files.Script name) (LoadCause before after files.Script name)
    (HasScript before name setup) (ScriptCause before after name setup) refusal (λ other is. is) (script_of_load before after name setup refusal) loaded

-- what is told of a later file, told of the whole
pub script_had_earlier : (before middle : FilesSeen) (name : List ℕ) (setup : Setup) (lines : List Line) → middle.contents name ≡ before.contents name → HasScript middle name setup lines → HasScript before name setup lines
script_had_earlier before middle name setup lines same (bytes, loaded, spelled) = (bytes, loaded_earlier before middle files.Script name bytes same loaded, spelled)

pub script_earlier : (before middle after : FilesSeen) (name : List ℕ) (setup : Setup) (refusal : Refusal) → middle.contents name ≡ before.contents name → NoneFailed before middle → ScriptCause middle after name setup refusal → ScriptCause before after name setup refusal
script_earlier before middle after name setup (refusals.Script line kind) same none (bytes, loaded, refused) = (bytes, loaded_earlier before middle files.Script name bytes same loaded, refused)
script_earlier before middle after name setup other same none cause = cause_earlier before middle after files.Script name other same none cause

pub injection_earlier : (before middle : FilesSeen) (name : List ℕ) (injection : Option (List Entry)) → middle.contents name ≡ before.contents name → HasInjection middle name injection → HasInjection before name injection
injection_earlier before middle name None same none = none
injection_earlier before middle name (Some entries) same (named, (bytes, loaded, accepted)) = (named, (bytes, loaded_earlier before middle files.Einj name bytes same loaded, accepted))

pub einj_earlier : (before middle after : FilesSeen) (name : List ℕ) (refusal : Refusal) → middle.contents name ≡ before.contents name → NoneFailed before middle → EinjCause middle after name refusal → EinjCause before after name refusal
einj_earlier before middle after name (refusals.Einj error) same none (bytes, loaded, refused) = (bytes, loaded_earlier before middle files.Einj name bytes same loaded, refused)
einj_earlier before middle after name other same none cause = cause_earlier before middle after files.Einj name other same none cause

named_earlier : (before middle after : FilesSeen) (einj : List ℕ) (refusal : Refusal) → middle.contents einj ≡ before.contents einj → NoneFailed before middle → NamedCause middle after einj refusal → NamedCause before after einj refusal
named_earlier before middle after einj refusal same none (named, cause) = (named, einj_earlier before middle after einj refusal same none cause)

-- both tables are loaded
pub tables_found : (before middle after : FilesSeen) (hest einj : List ℕ) (found : List Source) (injection : Option (List Entry)) → LoadsHest before middle hest (Ok found) → LoadsInjection middle after einj (Ok injection) → LoadsTables before after hest einj (Ok (found, injection))
tables_found before middle after hest einj found injection table loaded =
    let both = then_works (IsName hest) (IsNamed einj) (IsTableName hest einj) before middle after
    (HasHest before hest) (HestCause before middle hest) (HasInjection middle einj) (HasInjection before einj)
    (NamedCause middle after einj) (NamedCause before after einj) found (Ok injection)
    (λ name is. inl is) (λ name is. inr is) (λ some has. injection_earlier before middle einj some (table.loads.contents einj) has)
    (λ why cause. named_earlier before middle after einj why (table.loads.contents einj) table.unfailed cause) table loaded in
    record {
      loads = both.loads;
      unfailed = both.unfailed;
      counted = tt;
      found = record { table = table.found; named = both.found };
      refused = tt;
    }

-- the injection table is refused behind the table
pub second_refused : (before middle after : FilesSeen) (hest einj : List ℕ) (found : List Source) (refusal : Refusal) → LoadsHest before middle hest (Ok found) → LoadsInjection middle after einj (Err refusal) → LoadsTables before after hest einj (Err refusal)
second_refused before middle after hest einj found refusal table loaded =
    let both = then_works (IsName hest) (IsNamed einj) (IsTableName hest einj) before middle after
    (HasHest before hest) (HestCause before middle hest) (HasInjection middle einj) (HasInjection before einj)
    (NamedCause middle after einj) (NamedCause before after einj) found (Err refusal)
    (λ name is. inl is) (λ name is. inr is) (λ some has. injection_earlier before middle einj some (table.loads.contents einj) has)
    (λ why cause. named_earlier before middle after einj why (table.loads.contents einj) table.unfailed cause) table loaded in
    record {
      loads = both.loads;
      unfailed = tt;
      counted = both.counted;
      found = tt;
      refused = inr (found, table.found, both.refused.0, both.refused.1);
    }

-- the table is refused
pub first_refused : (before after : FilesSeen) (hest einj : List ℕ) (refusal : Refusal) → LoadsHest before after hest (Err refusal) → LoadsTables before after hest einj (Err refusal)
first_refused before after hest einj refusal table = record {
  loads = loads_weaker (IsName hest) (IsTableName hest einj) before after (λ name is. inl is) table.loads;
  unfailed = tt;
  counted = table.counted;
  found = tt;
  refused = inl table.refused;
}

-- What files in memory hold, what a load of one answers, and what each call changes.
use Rattle.std.specs.Prelude.{◌≡◌, ◌≢◌, ℕ, List, [], Option, Some, None, Result, Err, if◌then◌else◌}
use Rattle.std.specs.Option.{option_map}
use Rattle.std.specs.BTreeMap.{get_by_text}
use Rattle.fault_plan.specs.Plan.{Calls, no_calls, fails_next}
use Rattle.ghes_outside.specs.declared.files.LoadError.{LoadError}
use Rattle.ghes_outside.specs.declared.files.LoadError.TheVariants.{Failed}
use Rattle.ghes_outside.specs.Loads.{names_in, told_answer}
use Rattle.ghes_outside.specs.Outside.{FilesSeen}
use Rattle.ghes_outside.specs.declared.mem_files.MemFiles.{MemFiles}

-- what the file of a name holds, where there is one (own choice)
abbrev pub contents_of : MemFiles → List ℕ → Option (List ℕ)
contents_of files name = option_map (λ bytes. bytes.items) (get_by_text files.files name)

-- the names whose load failed, the oldest first (own choice)
abbrev pub names_of : MemFiles → List (List ℕ)
names_of files = names_in files.failed.items

-- the names whose load failed, which are all told (own choice)
abbrev pub failed_of : MemFiles → Option (List (List ℕ))
failed_of files = Some (names_of files)

-- how often a load has failed (own choice)
abbrev pub faults_of : MemFiles → ℕ
faults_of files = files.faults

-- the numbered loads (own choice)
abbrev pub calls_of : MemFiles → Calls
calls_of files = files.plan

-- what the files tell, which is all (own choice)
abbrev pub files_told : MemFiles → FilesSeen
files_told files = record { contents = contents_of files; failed = failed_of files; faults = faults_of files }

-- what a load answers where there is memory: first whether it is to fail (own choice)
abbrev pub load_answer : MemFiles → List ℕ → ℕ → Result (Unit {0}) LoadError
load_answer files name limit =
    if fails_next (calls_of files) then Err Failed else told_answer (contents_of files name) limit

-- no loads were made in between (own choice)
pub record KeepsLoads (old new : MemFiles) : Type 0 where
  pub names : names_of new ≡ names_of old
  pub faults : faults_of new ≡ faults_of old
  pub calls : calls_of new ≡ calls_of old

-- no file, and no load so far (own choice)
pub record HasNoFiles (files : MemFiles) (failing : List ℕ) : Type 0 where
  pub none : (name : List ℕ) → contents_of files name ≡ None
  pub names : names_of files ≡ []
  pub faults : faults_of files ≡ 0
  pub calls : calls_of files ≡ no_calls failing

-- the file of this name has these bytes, and each other name is as before (own choice)
pub record SetsFile (old new : MemFiles) (name bytes : List ℕ) : Type 0 where
  pub set : contents_of new name ≡ Some bytes
  pub others : (other : List ℕ) → other ≢ name → contents_of new other ≡ contents_of old other
  pub loads : KeepsLoads old new

-- each file is as before (own choice)
pub record KeepsFiles (old new : MemFiles) : Type 0 where
  pub files : (name : List ℕ) → contents_of new name ≡ contents_of old name
  pub loads : KeepsLoads old new

-- What files and an output tell, and what one call of each changes.
use Rattle.std.specs.Prelude.{◌≡◌, ◌≤◌, ◌<◌, ◌+◌, ◌-◌, ◌^◌, ℕ, min, List, [], ◌∷◌, ◌++◌, length, Option, IfSome, Result, Ok, Err}
use Rattle.std.specs.Option.{option_map}
use Rattle.ghes_outside.specs.declared.files.LoadError.{LoadError}
use Rattle.ghes_outside.specs.declared.files.LoadError.TheVariants.{Failed, TooLong, OutOfMemory}

-- what files tell: their contents by name, the names whose load failed, the oldest first, and how often a load failed
pub record FilesSeen : Type 0 where
  pub contents : List ℕ → Option (List ℕ)
  pub failed : Option (List (List ℕ))
  pub faults : ℕ

-- what an output tells: the bytes that it took, and how often a put failed
pub record SinkSeen : Type 0 where
  pub written : Option (List ℕ)
  pub faults : ℕ

-- The count of faults rose, or stands at its last value, 2 ^ 64 - 1 (own choice).
abbrev pub Rose : ℕ → ℕ → Type 0
Rose before now = min (before + 1) (2 ^ 64 - 1) ≤ now

-- These bytes are what is told, where something is told.
abbrev pub Agrees : Option (List ℕ) → List ℕ → Type 0
Agrees told bytes = IfSome told (λ contents. bytes ≡ contents)

-- What is told to be longer than a limit.
abbrev pub IsLonger : Option (List ℕ) → ℕ → Type 0
IsLonger told limit = IfSome told (λ contents. limit < length contents)

-- The names of failed loads after a load of one more name: only `Failed` adds that name.
abbrev pub names_after : {T : Type 0} → Result T LoadError → List ℕ → Option (List (List ℕ)) → Option (List (List ℕ))
names_after (Err Failed) name told = option_map (λ names. names ++ name ∷ []) told
names_after (Err TooLong) name told = told
names_after (Err OutOfMemory) name told = told
names_after (Ok done) name told = told

-- The output after it took these bytes, where it is told.
abbrev pub Appends : Option (List ℕ) → Option (List ℕ) → List ℕ → Type 0
Appends old new bytes = new ≡ option_map (λ written. written ++ bytes) old

-- The output after it took a front of these bytes.
pub record AppendsFront (old new : Option (List ℕ)) (bytes : List ℕ) : Type 0 where
  pub front : List ℕ
  pub rest : List ℕ
  pub whole : bytes ≡ front ++ rest
  pub taken : Appends old new front

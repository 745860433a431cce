-- What one load of a file in memory answers, and what its failure leaves.
use Rattle.std.specs.Prelude.{◌+◌, ◌-◌, ◌^◌, ◌++◌, ℕ, List, [], ◌∷◌, length, map, min, nat_le, String, string_bytes, Option, Some, None, Result, Ok, Err, if◌then◌else◌}
use Rattle.std.specs.declared.alloc.Global.{Global}
use Rattle.ghes_outside.specs.declared.files.LoadError.{LoadError}
use Rattle.ghes_outside.specs.declared.files.LoadError.TheVariants.{Failed, TooLong, OutOfMemory}

-- the bytes of these texts (own choice)
abbrev pub names_in : List (String Global) → List (List ℕ)
names_in texts = map (λ text. string_bytes text) texts

-- a load of what is told of a file, under a limit (own choice)
abbrev pub told_answer : Option (List ℕ) → ℕ → Result (Unit {0}) LoadError
told_answer None limit = Err Failed
told_answer (Some bytes) limit = if nat_le (length bytes) limit then Ok tt else Err TooLong

-- the names of failed loads with one more, where it is noted (own choice)
abbrev pub names_with : LoadError → List ℕ → List (List ℕ) → List (List ℕ)
names_with Failed name names = names ++ name ∷ []
names_with TooLong name names = names
names_with OutOfMemory name names = names

-- the count of faults with one more, where the name is noted; it stays at 2 ^ 64 - 1 (own choice)
abbrev pub faults_with : LoadError → ℕ → ℕ
faults_with Failed faults = min (faults + 1) (2 ^ 64 - 1)
faults_with TooLong faults = faults
faults_with OutOfMemory faults = faults

-- the count of faults after a load (own choice)
abbrev pub faults_after : Result (Unit {0}) LoadError → ℕ → ℕ
faults_after (Ok done) faults = faults
faults_after (Err error) faults = faults_with error faults

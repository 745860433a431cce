-- The words for a file that was not loaded.
use Rattle.std.specs.Prelude.{ℕ, List, codes}
use Rattle.ghes_outside.specs.declared.files.LoadError.{LoadError}
use Rattle.ghes_outside.specs.declared.files.LoadError.TheVariants.{Failed, TooLong, OutOfMemory}

-- why a file was not loaded, each but the last after its number (own choice)
abbrev pub load_error_text : LoadError → List ℕ
load_error_text Failed = codes "1 failed"
load_error_text TooLong = codes "2 too long"
load_error_text OutOfMemory = codes "out of memory"

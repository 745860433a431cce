-- The words for a refused HEST, each but the last after its number.
use Rattle.std.specs.Prelude.{ℕ, List, ◌++◌, codes}
use Rattle.std.specs.Fmt.{decimal}
use Rattle.apei_base.specs.Text.{sdt_error_text, gas_error_text}
use Rattle.apei_hest.specs.declared.error.HestError.{HestError}
use Rattle.apei_hest.specs.declared.error.HestError.TheVariants.{Table, Truncated, SourceType, CountMismatch, DuplicateId, Register, BlockLength, TooMany, OutOfMemory}

-- the words for a refused HEST (own choice)
abbrev pub hest_error_text : HestError → List ℕ
hest_error_text (Table why) = codes "1 table: " ++ sdt_error_text why
hest_error_text (Truncated at) = codes "2 truncated at " ++ decimal at
hest_error_text (SourceType at kind) = codes "3 source type " ++ decimal kind ++ codes " at " ++ decimal at
hest_error_text (CountMismatch said found) = codes "4 count says " ++ decimal said ++ codes ", found " ++ decimal found
hest_error_text (DuplicateId id) = codes "5 source " ++ decimal id ++ codes " twice"
hest_error_text (Register id why) = codes "6 register of source " ++ decimal id ++ codes ": " ++ gas_error_text why
hest_error_text (BlockLength id) = codes "7 block length of source " ++ decimal id
hest_error_text TooMany = codes "8 too many"
hest_error_text OutOfMemory = codes "out of memory"

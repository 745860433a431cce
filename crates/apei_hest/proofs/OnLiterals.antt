-- The definitions computed on known bytes, so that each field and each length is held against the standard's own.
use Rattle.std.proofs.Common.{◌≡◌, ℕ, List, [], ◌∷◌, ◌++◌, true, take, drop, Some, None, Ok, Err, refl}
use Rattle.std.specs.List.{repeat}
use Rattle.apei_base.proofs.Samples.{one_source, one_source_with}
use Rattle.apei_base.specs.declared.gas.GasError.TheVariants as gas_errors
use Rattle.apei_base.specs.declared.sdt.SdtError.TheVariants.{Length, Checksum}
use Rattle.apei_hest.specs.Hest.{Judges}
use Rattle.apei_hest.specs.Source.{ghes_of, source_of}
use Rattle.apei_hest.specs.Structure.{structure_length}
use Rattle.apei_hest.specs.declared.source.Ghes.{Ghes}
use Rattle.apei_hest.specs.declared.source.Source.TheVariants as sources
use Rattle.apei_hest.specs.declared.error.HestError.TheVariants.{Table, Register}

-- what the sample says, field by field
abbrev sample : Ghes
sample = record {
  id = 1;
  at = 40;
  related = 0xffff;
  flags = 0;
  enabled = true;
  records = 1;
  sections = 1;
  raw = 0;
  status = record { space = 0; bit_width = 64; bit_offset = 0; access = 4; address = 0x7f000000 };
  notify = record {
    kind = 4;
    length = 28;
    write_enable = 0;
    poll = 0;
    vector = 0;
    poll_threshold = 0;
    poll_window = 0;
    error_threshold = 0;
    error_window = 0;
  };
  block_length = 4096;
  ack = None;
}

-- the structure of the sample
pub source_of-sample : source_of (drop 40 one_source) 40 ≡ sources.Ghes sample
unfolding source_of ghes_of
source_of-sample = refl

-- a structure of type 9
pub structure_length-sample : structure_length (drop 40 one_source) ≡ Some 64
unfolding structure_length
structure_length-sample = refl

-- the two bytes of a type, and zeros up to an offset where four banks are counted
abbrev with_four_banks : ℕ → ℕ → List ℕ
with_four_banks kind zeros = kind ∷ 0 ∷ (repeat zeros (0 ∷ []) ++ 4 ∷ [])

-- four banks of a machine check exception, counted at 32
pub structure_length-exception : structure_length (with_four_banks 0 30) ≡ Some 152
unfolding structure_length
structure_length-exception = refl

-- four banks of a corrected machine check, counted at 44
pub structure_length-corrected : structure_length (with_four_banks 1 42) ≡ Some 160
unfolding structure_length
structure_length-corrected = refl

-- four banks of a deferred machine check, counted at 44
pub structure_length-deferred : structure_length (with_four_banks 11 42) ≡ Some 160
unfolding structure_length
structure_length-deferred = refl

-- there is no type 12
pub structure_length-twelve : structure_length (12 ∷ 0 ∷ []) ≡ None
unfolding structure_length
structure_length-twelve = refl

-- the sample is accepted with its one source
pub judges-sample : Judges one_source (Ok (sources.Ghes sample ∷ []))
unfolding source_of ghes_of structure_length
judges-sample = (drop 40 one_source ∷ [], [], record { whole = refl; each = (refl, tt) }, (refl, tt), refl)

-- with access size code 5 its status address is refused
pub judges-access_size : Judges (one_source_with 0x3f 5) (Err (Register 1 gas_errors.AccessSize))
unfolding source_of ghes_of structure_length
judges-access_size = ([], drop 40 (one_source_with 0x3f 5), record { whole = refl; each = tt }, tt, refl)

-- a checksum one too large
pub judges-checksum : Judges (one_source_with 0x41 4) (Err (Table Checksum))
judges-checksum = refl

-- one byte fewer
pub judges-length : Judges (take 103 one_source) (Err (Table Length))
judges-length = refl

-- The header that all system description tables begin with (ACPI 6.5, 5.2.6).
use Rattle.std.specs.Prelude.{◌≡◌, ◌≤◌, ℕ, ◌%◌, not, ◌==◌, nat_lt, sum, List, [], ◌∷◌, length, take, drop, Option}
use Rattle.std.specs.Str.{bytes_eq}
use Rattle.byteorder.specs.Endian.{little_number}
use Rattle.apei_base.specs.Refusal.{first_of}
use Rattle.apei_base.specs.declared.sdt.SdtError.{SdtError}
use Rattle.apei_base.specs.declared.sdt.SdtError.TheVariants as errors

-- the length of the whole table that its header states, at offset 4 (ACPI 6.5, 5.2.6)
abbrev pub stated_length : List ℕ → ℕ
stated_length bytes = little_number 4 (drop 4 bytes)

-- the bytes are a table of this signature: the header is whole, it states the signature and the length that
-- the bytes have, and all bytes add up to 0 modulo 256 (ACPI 6.5, 5.2.6)
pub record IsTable (signature bytes : List ℕ) : Type 0 where
  pub whole : 36 ≤ length bytes
  pub signed : take 4 bytes ≡ signature
  pub as_long : stated_length bytes ≡ length bytes
  pub summed : sum bytes % 256 ≡ 0

-- why bytes are no table of this signature, the first reason that holds (own choice)
abbrev pub sdt_refusal : List ℕ → List ℕ → Option SdtError
sdt_refusal signature bytes = first_of (
    (nat_lt (length bytes) 36, errors.Short) ∷
    (not (bytes_eq (take 4 bytes) signature), errors.Signature) ∷
    (not (stated_length bytes == length bytes), errors.Length) ∷
    (not (sum bytes % 256 == 0), errors.Checksum) ∷ [])

-- The header of an error status block, and what it says of the block (ACPI 6.5, 18.3.2.7.1).
use Rattle.std.specs.Prelude.{ℕ, ◌+◌, ◌==◌, ◌&&◌, not, nat_lt, if◌then◌else◌, List, [], ◌∷◌, Option}
use Rattle.apei_base.specs.Number.{number_at}
use Rattle.apei_base.specs.Refusal.{first_of}
use Rattle.cper_block.specs.Entry.{entry_header_size}
use Rattle.cper_block.specs.declared.header.Header.{Header}
use Rattle.cper_block.specs.declared.malformed.Malformed.{Malformed}
use Rattle.cper_block.specs.declared.malformed.Malformed.TheVariants.{TooShort, TooLong, DataLength, RawOffset}

-- how many bytes the header of a block has (ACPI 6.5, 18.3.2.7.1)
abbrev pub header_size : ℕ
header_size = 20

-- the header that 20 bytes spell (ACPI 6.5, 18.3.2.7.1)
abbrev pub header_of : List ℕ → Header
header_of bytes = record {
  status = number_at 0 4 bytes;
  raw_offset = number_at 4 4 bytes;
  raw_length = number_at 8 4 bytes;
  length = number_at 12 4 bytes;
  severity = number_at 16 4 bytes;
}

-- How long the block is: up to the end of the raw data, where there is some, else up to the end of the entries.
-- It is a number without an upper bound (after Linux 6.1, include/acpi/apei.h).
abbrev pub block_length : Header → ℕ
block_length header = if header.raw_length == 0 then header_size + header.length else header.raw_offset + header.raw_length

-- why the header alone makes the block malformed under a limit, the first that holds
-- (after Linux 6.1, drivers/firmware/efi/cper.c; the order: own choice)
abbrev pub header_reason : Header → ℕ → Option Malformed
header_reason header limit = first_of (
    (nat_lt (block_length header) header_size, TooShort) ∷
    (nat_lt limit (block_length header), TooLong) ∷
    (nat_lt 0 header.length && nat_lt header.length entry_header_size, DataLength) ∷
    (not (header.raw_length == 0) && nat_lt header.raw_offset (header_size + header.length), RawOffset) ∷ [])

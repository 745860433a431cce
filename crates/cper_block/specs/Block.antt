-- A whole error status block: its parts, and why bytes are none (ACPI 6.5, 18.3.2.7.1).
use Rattle.std.specs.Prelude.{◌≡◌, ◌<◌, ◌+◌, ℕ, min, ◌==◌, nat_lt, if◌then◌else◌, List, [], ◌++◌, length, take, drop, Option, Some, None}
use Rattle.std.specs.List.{AllByRecursion}
use Rattle.apei_base.specs.Cut.{joined}
use Rattle.cper_block.specs.Header.{header_size, header_of, header_reason}
use Rattle.cper_block.specs.Cut.{IsEntry, Walks}
use Rattle.cper_block.specs.declared.header.Header.{Header}
use Rattle.cper_block.specs.declared.malformed.Malformed.{Malformed}
use Rattle.cper_block.specs.declared.malformed.Malformed.TheVariants.{TooShort}

-- how many bytes a block of a source has at most (own choice)
abbrev pub largest_block : ℕ
largest_block = 65536

-- a block's header, the bytes of its entries, and its raw data
pub record Parts : Type 0 where
  pub header : Header
  pub entry_bytes : List ℕ
  pub raw : List ℕ

-- the bytes of the entries, behind the header
abbrev pub data_of : List ℕ → List ℕ
data_of bytes = take (header_of bytes).length (drop header_size bytes)

-- the raw data
abbrev pub raw_of : List ℕ → List ℕ
raw_of bytes = if (header_of bytes).raw_length == 0 then [] else take (header_of bytes).raw_length (drop (header_of bytes).raw_offset bytes)

-- why the front of the bytes makes them no block under a limit: there is no header, or the header alone says so
abbrev pub front_reason : List ℕ → ℕ → Option Malformed
front_reason bytes limit =
    if nat_lt (length bytes) header_size then Some TooShort else header_reason (header_of bytes) (min (length bytes) limit)

-- the reason of the front, where it has one, and else that of the bytes of the entries
abbrev pub JudgedBy : Option Malformed → List ℕ → Option Malformed → Type 0
JudgedBy (Some reason) entry_bytes answer = answer ≡ Some reason
JudgedBy None entry_bytes answer = Walks entry_bytes answer

-- why bytes are no well-formed block under a limit, if they are none
abbrev pub Judges : List ℕ → ℕ → Option Malformed → Type 0
Judges bytes limit answer = JudgedBy (front_reason bytes limit) (data_of bytes) answer

-- The bytes are a block of this header with these entries: the header's 20 bytes, the entries, a gap and the raw
-- data, one behind the other, as long as the header states and where it states; there is no gap without raw data.
pub record IsJoined (header : Header) (block : List ℕ) (entries : List (List ℕ)) : Type 0 where
  pub front : List ℕ
  pub gap : List ℕ
  pub raw : List ℕ
  pub whole : block ≡ front ++ (joined entries ++ (gap ++ raw))
  pub front_length : length front ≡ header_size
  pub each : AllByRecursion IsEntry entries
  pub data_length : length (joined entries) ≡ header.length
  pub raw_length : length raw ≡ header.raw_length
  pub raw_offset : 0 < header.raw_length → header_size + header.length + length gap ≡ header.raw_offset
  pub no_gap : header.raw_length ≡ 0 → gap ≡ []

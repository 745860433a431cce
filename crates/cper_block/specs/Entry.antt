-- A data entry of a block: how long it is, and its fields (UEFI 2.10, appendix N.2.2; ACPI 6.5, 18.3.2.7.1).
use Rattle.std.specs.Prelude.{ℕ, ◌+◌, ◌/◌, ◌==◌, ◌&&◌, not, nat_le, if◌then◌else◌, Bool, List, take, drop, slice_index, bit_and, Option, Some, None}
use Rattle.std.specs.Option.{option_copied}
use Rattle.uuid.specs.Parts.{swap_fields}
use Rattle.apei_base.specs.Number.{number_at}
use Rattle.cper_block.specs.declared.entry.DataEntry.{DataEntry}

-- how many bytes the header of an entry has at least, and how many with a timestamp (ACPI 6.5, 18.3.2.7.1)
abbrev pub entry_header_size : ℕ
entry_header_size = 64

abbrev pub long_entry_header_size : ℕ
long_entry_header_size = 72

-- The header of an entry has 72 bytes where the high byte of its revision, at offset 20, is 3 or more: there a
-- timestamp follows. Else it has 64 bytes (ACPI 6.5, 18.3.2.7.1).
abbrev pub entry_header_length : List ℕ → ℕ
entry_header_length bytes = if nat_le 3 (number_at 20 2 bytes / 256) then long_entry_header_size else entry_header_size

-- the length of its section, at offset 24
abbrev pub section_length : List ℕ → ℕ
section_length bytes = number_at 24 4 bytes

-- the length of the entry that begins the bytes
abbrev pub entry_length : List ℕ → ℕ
entry_length bytes = entry_header_length bytes + section_length bytes

-- the GUID in 16 bytes at an offset: its first three fields are little-endian (UEFI 2.10, appendix A)
abbrev pub guid_at : ℕ → List ℕ → List ℕ
guid_at offset bytes = swap_fields (take 16 (drop offset bytes))

-- the fields of an entry
pub record Fields : Type 0 where
  pub guid : List ℕ
  pub severity : ℕ
  pub revision : ℕ
  pub validation : ℕ
  pub flags : ℕ
  pub fru_id : Option (List ℕ)
  pub fru_text : Option (List ℕ)
  pub timestamp : Option (List ℕ)
  pub section : List ℕ

-- a bit of the validation byte, at offset 22
abbrev pub is_valid : ℕ → List ℕ → Bool
is_valid mask bytes = not (bit_and (slice_index bytes 22) mask == 0)

-- the fields that the bytes of one entry spell; bits 0, 1 and 2 of the validation byte say which of the optional ones
-- are there, and a timestamp needs a header of 72 bytes (ACPI 6.5, 18.3.2.7.1)
unfoldable pub fields_of : List ℕ → Fields
fields_of bytes = record {
  guid = guid_at 0 bytes;
  severity = number_at 16 4 bytes;
  revision = number_at 20 2 bytes;
  validation = slice_index bytes 22;
  flags = slice_index bytes 23;
  fru_id = if is_valid 1 bytes then Some (guid_at 28 bytes) else None;
  fru_text = if is_valid 2 bytes then Some (take 20 (drop 44 bytes)) else None;
  timestamp = if is_valid 4 bytes && (entry_header_length bytes == long_entry_header_size) then Some (take 8 (drop entry_header_size bytes)) else None;
  section = drop (entry_header_length bytes) bytes;
}

-- an entry without where its parts lie in memory
abbrev pub view : DataEntry → Fields
view entry = record {
  guid = entry.guid;
  severity = entry.severity;
  revision = entry.revision;
  validation = entry.validation;
  flags = entry.flags;
  fru_id = entry.fru_id;
  fru_text = option_copied entry.fru_text;
  timestamp = option_copied entry.timestamp;
  section = entry.section.now;
}

-- The block that an injected error leaves: a header, one data entry, and its section (ACPI 6.5, 18.3.2.7.1).
use Rattle.std.specs.Prelude.{ℕ, ◌+◌, if◌then◌else◌, List, [], ◌∷◌, ◌++◌, replicate}
use Rattle.byteorder.specs.Endian.{little_bytes}
use Rattle.fw_einj.specs.Class.{class_of, is_correctable, is_fatal_type, guid_bytes}
use Rattle.fw_einj.specs.Section.{section_by, section_length}
use Rattle.fw_einj.specs.declared.class.Class.{Class}
use Rattle.fw_einj.specs.declared.injection.Injection.{Injection}

-- the block status: one entry, bits 4 to 13, of a correctable error, bit 1, or of an uncorrectable one, bit 0
-- (ACPI 6.5, 18.3.2.7.1)
abbrev pub block_status : ℕ → ℕ
block_status error = if is_correctable error then 0x12 else 0x11

-- the code of the severity: 2 corrected, 1 fatal, 0 recoverable (ACPI 6.5, 18.3.2.7.1)
abbrev pub severity_code : ℕ → ℕ
severity_code error = if is_correctable error then 2 else if is_fatal_type error then 1 else 0

-- the header: block status, no raw data, the length of the one entry with its 64 bytes, and the severity
-- (ACPI 6.5, 18.3.2.7.1)
abbrev pub header_part : Class → ℕ → List ℕ
header_part of error =
    little_bytes 4 (block_status error) ++ (replicate 8 0 ++ (little_bytes 4 (64 + section_length of) ++ little_bytes 4 (severity_code error)))

-- the header of the entry: GUID, severity, revision 0x0201, validation 0 and flags 0, the length of the section, and no
-- FRU (UEFI 2.10, appendix N.2.2)
abbrev pub entry_part : Class → ℕ → List ℕ
entry_part of error =
    guid_bytes of ++ (little_bytes 4 (severity_code error) ++ (little_bytes 2 0x0201 ++ (0 ∷ 0 ∷ []
    ++ (little_bytes 4 (section_length of) ++ replicate 36 0))))

-- the block of an error of a class
abbrev pub block_by : Class → Injection → List ℕ
block_by of injection = header_part of injection.error ++ (entry_part of injection.error ++ section_by of injection)

-- the block of an injected error
unfoldable pub block_of : Injection → List ℕ
block_of injection = block_by (class_of injection.error) injection

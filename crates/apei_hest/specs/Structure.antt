-- The error source structures of a HEST: how long each is, by its type (ACPI 6.5, 18.3.2).
use Rattle.std.specs.Prelude.{◌≡◌, ℕ, ◌+◌, ◌*◌, ◌==◌, nat_lt, if◌then◌else◌, List, [], ◌∷◌, length, take, slice_index, Option, Some, None, is_none, unwrap_or}
use Rattle.apei_base.specs.Number.{number_at}
use Rattle.apei_base.specs.Refusal.{first_of}
use Rattle.apei_hest.specs.declared.error.HestError.{HestError}
use Rattle.apei_hest.specs.declared.error.HestError.TheVariants.{Truncated, SourceType}

-- the type of the structure that begins the bytes, at offset 0 (ACPI 6.5, 18.3.2)
abbrev pub type_of : List ℕ → ℕ
type_of bytes = number_at 0 2 bytes

-- the length with its banks, of 28 bytes each, whose count is the byte at an offset (ACPI 6.5, 18.3.2.2.1)
abbrev pub with_banks : ℕ → ℕ → List ℕ → ℕ
with_banks fixed offset bytes = fixed + 28 * slice_index bytes offset

-- The length of the structure that begins the bytes, by its type, and none for a type that is not read. The types are:
-- 0, 1 and 2 machine check exception, corrected machine check and NMI, 6, 7 and 8 PCIe root port, endpoint and bridge,
-- 9 and 10 generic source of version 1 and 2, 11 deferred machine check (ACPI 6.5, 18.3.2.1 to 18.3.2.10).
unfoldable pub structure_length : List ℕ → Option ℕ
structure_length bytes =
    if type_of bytes == 0 then Some (with_banks 40 32 bytes)
    else if type_of bytes == 1 then Some (with_banks 48 44 bytes)
    else if type_of bytes == 2 then Some 20
    else if type_of bytes == 6 then Some 48
    else if type_of bytes == 7 then Some 44
    else if type_of bytes == 8 then Some 56
    else if type_of bytes == 9 then Some 64
    else if type_of bytes == 10 then Some 92
    else if type_of bytes == 11 then Some (with_banks 48 44 bytes)
    else None

-- the bytes are one structure: they have the length of its type
abbrev pub IsStructure : List ℕ → Type 0
IsStructure bytes = structure_length bytes ≡ Some (length bytes)

-- the bytes of the structure that begins the bytes
abbrev pub structure_at : List ℕ → List ℕ
structure_at bytes = take (unwrap_or (structure_length bytes) 0) bytes

-- why bytes at this offset of a table do not begin with a whole structure, the first reason: they end before its type and
-- its id, its type is not read, or they end before its length (own choice)
abbrev pub structure_refusal : ℕ → List ℕ → Option HestError
structure_refusal at bytes = first_of (
    (nat_lt (length bytes) 4, Truncated at) ∷
    (is_none (structure_length bytes), SourceType at (type_of bytes)) ∷
    (nat_lt (length bytes) (unwrap_or (structure_length bytes) 0), Truncated at) ∷ [])

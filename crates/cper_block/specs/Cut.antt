-- The data of a block, cut into entries (UEFI 2.10, appendix N.2; ACPI 6.5, 18.3.2.7.1).
use Rattle.std.specs.Prelude.{◌≡◌, ◌≤◌, ℕ, zero, suc, ◌==◌, ◌&&◌, nat_lt, nat_le, if◌then◌else◌, Bool, false, List, [], ◌∷◌, length, take, drop, Option, Some, None}
use Rattle.apei_base.specs.Cut.{CutsInto}
use Rattle.cper_block.specs.Entry.{entry_header_size, entry_length, Fields, fields_of}
use Rattle.cper_block.specs.declared.malformed.Malformed.{Malformed}
use Rattle.cper_block.specs.declared.malformed.Malformed.TheVariants.{EntryTruncated, Leftover}

-- The bytes are one entry: they have a header's 64 bytes at least, and the length that it states.
pub record IsEntry (bytes : List ℕ) : Type 0 where
  pub header : entry_header_size ≤ length bytes
  pub stated : length bytes ≡ entry_length bytes

-- The data is these entries, one behind the other, and then a rest.
abbrev pub Cuts : List ℕ → List (List ℕ) → List ℕ → Type 0
Cuts bytes entries rest = CutsInto IsEntry bytes entries rest

-- a whole entry begins the bytes
abbrev pub begins_entry : List ℕ → Bool
begins_entry bytes = nat_le entry_header_size (length bytes) && nat_le (entry_length bytes) (length bytes)

-- why a rest behind so many whole entries makes a block malformed
-- (after Linux 6.1, drivers/firmware/efi/cper.c; own choice: the two reasons, and the count)
abbrev pub rest_reason : ℕ → List ℕ → Option Malformed
rest_reason whole rest =
    if length rest == 0 then None
    else if nat_lt (length rest) entry_header_size then Some Leftover
    else Some (EntryTruncated whole)

-- The data is cut into entries up to a rest that no whole entry begins, and that rest decides.
abbrev pub Walks : List ℕ → Option Malformed → Type 0
Walks bytes answer =
    (entries : List (List ℕ)) × (rest : List ℕ) × Cuts bytes entries rest × (begins_entry rest ≡ false)
    × (answer ≡ rest_reason (length entries) rest)

-- the fields of the first so many entries
abbrev pub entries_in : ℕ → List ℕ → List Fields
entries_in zero bytes = []
entries_in (suc n) bytes =
    if begins_entry bytes then fields_of (take (entry_length bytes) bytes) ∷ entries_in n (drop (entry_length bytes) bytes)
    else []

-- the fields of all entries that the bytes begin with: there are at most as many as bytes
abbrev pub entries_of : List ℕ → List Fields
entries_of bytes = entries_in (length bytes) bytes

-- The entries of an injection table (ACPI 6.5, 18.6.2).
use Rattle.std.specs.Prelude.{ℕ, zero, suc, Bool, ◌+◌, ◌||◌, ◌==◌, nat_le, List, [], ◌∷◌, take, drop, slice_index}
use Rattle.std.specs.List.{filter}
use Rattle.apei_base.specs.Number.{number_at}
use Rattle.apei_base.specs.Region.{gas_at}
use Rattle.apei_einj.specs.declared.entry.Entry.{Entry}

-- the entry that 32 bytes spell, which stand at this offset of the table; the byte at 3 is reserved (ACPI 6.5, 18.6.2)
abbrev pub entry_of : List ℕ → ℕ → Entry
entry_of bytes at = record {
  at = at;
  action = slice_index bytes 0;
  instruction = slice_index bytes 1;
  flags = slice_index bytes 2;
  register = gas_at 4 bytes;
  value = number_at 16 8 bytes;
  mask = number_at 24 8 bytes;
}

-- so many pieces of 32 bytes, one behind the other from the front of the bytes
unfoldable pub pieces_of : ℕ → List ℕ → List (List ℕ)
pieces_of zero bytes = []
pieces_of (suc n) bytes = take 32 bytes ∷ pieces_of n (drop 32 bytes)

-- the entries of pieces that stand one behind another, the first at this offset of the table (ACPI 6.5, 18.6.1)
unfoldable pub entries_from : ℕ → List (List ℕ) → List Entry
entries_from at [] = []
entries_from at (piece ∷ pieces) = entry_of piece at ∷ entries_from (at + 32) pieces

-- the entry is of an action that an injection runs, 0 to 8; the others are passed over (ACPI 6.5, 18.6.1; own choice)
abbrev pub is_injection : Entry → Bool
is_injection entry = nat_le entry.action 8

-- the entry reads its register: read register, or read register value (ACPI 6.5, 18.6.2)
abbrev pub reads_register : Entry → Bool
reads_register entry = (entry.instruction == 0) || (entry.instruction == 1)

-- the entry writes its register: write register, or write register value (ACPI 6.5, 18.6.2)
abbrev pub writes_register : Entry → Bool
writes_register entry = (entry.instruction == 2) || (entry.instruction == 3)

-- the entries of an action, in table order (ACPI 6.5, 18.6.1)
abbrev pub of_action : ℕ → List Entry → List Entry
of_action action entries = filter (λ entry. entry.action == action) entries

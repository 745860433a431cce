-- Numbers in the bytes of a table or of a block.
use Rattle.std.specs.Prelude.{ℕ, List, drop}
use Rattle.byteorder.specs.Endian.{little_number}

-- the number in the n bytes at an offset, the lowest byte first (ACPI 6.5, 5.2)
abbrev pub number_at : ℕ → ℕ → List ℕ → ℕ
number_at offset n bytes = little_number n (drop offset bytes)

-- Widths of an access.
use Rattle.std.specs.Prelude.{ℕ, Bool, ◌||◌, ◌==◌}

-- an access has 8, 16, 32 or 64 bits (ACPI 6.5, 5.2.3.2)
abbrev pub is_width : ℕ → Bool
is_width width = (width == 8) || (width == 16) || (width == 32) || (width == 64)

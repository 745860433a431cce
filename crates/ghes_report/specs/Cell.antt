-- The lines of read ack cells (own choice).
use Rattle.std.specs.Prelude.{ℕ, ◌/◌, min, List, ◌++◌, slice_get, codes}
use Rattle.std.specs.Fmt.{decimal}
use Rattle.std.specs.Int.{bytes_high_first}
use Rattle.hex.specs.Hex.{encode_lower}
use Rattle.ghes_report.specs.Lines.{id_or}

-- the access width of the read ack register of the source at a position, in bits, and 0 where there is none
abbrev pub width_at : List ℕ → ℕ → ℕ
width_at widths source = id_or (slice_get widths source)

-- how many bytes a register of so many bits has, eight at most
abbrev pub bytes_in : ℕ → ℕ
bytes_in width = min (width / 8) 8

-- the line of a cell, by the id of its source, in two digits for each byte of its register
unfoldable pub cell_line : ℕ → ℕ → ℕ → List ℕ
cell_line id width cell =
    codes "cell " ++ decimal id ++ codes ": 0x" ++ encode_lower (bytes_high_first (bytes_in width) cell) ++ codes "\n"

-- Where the areas of a machine stand.
use Rattle.std.specs.Prelude.{◌≡◌, ◌<◌, ℕ, ◌+◌, ◌*◌, true, false, List, [], ◌∷◌, ◌++◌, length, take, slice_index_or}
use Rattle.apei_base.specs.declared.region.Space.TheVariants.{Memory}
use Rattle.fw_map.specs.Runs.{is_taken}
use Rattle.fw_map.specs.declared.run.Run.{Run}

-- the place of an area by its number: a multiple of 0x10000, from 0x10000000 on (own choice)
abbrev pub place_at : ℕ → ℕ
place_at number = 0x10000000 + 0x10000 * number

-- so many bytes of memory at a place
abbrev pub area_at : ℕ → ℕ → Run
area_at bytes number = record { space = Memory; first = place_at number; bytes = bytes }

-- An area of so many bytes stands at the place of this number: it shares no cell with any of the runs there, and at each
-- lower place it does (own choice).
pub record IsLowest (runs : List Run) (bytes number : ℕ) : Type 0 where
  pub free : is_taken runs (area_at bytes number) ≡ false
  pub lower : (other : ℕ) → other < number → is_taken runs (area_at bytes other) ≡ true

-- the area stands at the lowest place that is free of the runs
abbrev pub IsPlaced : List Run → Run → Type 0
IsPlaced runs area = (number : ℕ) × (area ≡ area_at area.bytes number) × IsLowest runs area.bytes number

-- Each area stands at the lowest place where it shares no cell with any of the runs, or with an area before it (own choice).
abbrev pub ArePlaced : List Run → List Run → Type 0
ArePlaced runs areas = (k : ℕ) (none : Run) → k < length areas → IsPlaced (runs ++ take k areas) (slice_index_or areas k none)

-- These are the areas of the injection table, in order: 48 bytes and 4, behind the runs that are taken.
pub record ArePlacedBehind (runs : List Run) (table cell : Run) : Type 0 where
  pub table_bytes : table.bytes ≡ 48
  pub cell_bytes : cell.bytes ≡ 4
  pub table_placed : IsPlaced runs table
  pub cell_placed : IsPlaced (runs ++ table ∷ []) cell

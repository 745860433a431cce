-- Cells in runs: where they stand, which byte is in which cell, and what it means that runs are in order.
use Rattle.std.specs.Prelude.{◌≤◌, ◌<◌, ℕ, ◌+◌, ◌-◌, ◌^◌, Bool, ◌&&◌, nat_lt, nat_le, if◌then◌else◌, List, [], ◌∷◌, length, slice_index, slice_index_or, Some, None, IsTrue}
use Rattle.apei_base.specs.Bus.{Cells, same_space}
use Rattle.apei_base.specs.declared.region.Space.{Space}
use Rattle.apei_base.specs.declared.region.Space.TheVariants.{Memory, Port}
use Rattle.fw_cells.specs.declared.run.CellRun.{CellRun}

-- where a cell stands among all cells: those of memory before the ports, and then by address (own choice)
abbrev pub place_of : Space → ℕ → ℕ
place_of Memory address = address
place_of Port address = 2 ^ 65 + address

-- where a run begins among all cells (own choice)
abbrev pub start_of : CellRun → ℕ
start_of run = place_of run.space run.first

-- where the first cell behind a run stands among all cells (own choice)
abbrev pub end_of : CellRun → ℕ
end_of run = start_of run + length run.bytes

-- a run has this cell (own choice)
abbrev pub has_cell : CellRun → Space → ℕ → Bool
has_cell run space address =
    same_space run.space space && nat_le run.first address && nat_lt address (run.first + length run.bytes)

-- the byte in each cell of the runs, none where no run has the cell (own choice)
unfoldable pub cells_of : List CellRun → Cells
cells_of [] space address = None
cells_of (run ∷ more) space address =
    if has_cell run space address then Some (slice_index run.bytes (address - run.first)) else cells_of more space address

-- a run has a cell, and none past the greatest address, 2 ^ 64 - 1 (own choice)
pub record IsRun (run : CellRun) : Type 0 where
  pub some : 0 < length run.bytes
  pub ends : run.first + length run.bytes ≤ 2 ^ 64

-- Runs are in order: each is one, and between one and any later one there is a cell that is not mapped, so that no two
-- share a cell or adjoin (own choice).
pub record AreRuns (runs : List CellRun) : Type 0 where
  pub each : (k : ℕ) (none : CellRun) → k < length runs → IsRun (slice_index_or runs k none)
  pub apart : (i j : ℕ) (none : CellRun) → i < j → j < length runs
      → end_of (slice_index_or runs i none) < start_of (slice_index_or runs j none)

-- the run at this place has the cell (own choice)
pub record HasCellAt (runs : List CellRun) (space : Space) (address place : ℕ) : Type 0 where
  pub within : place < length runs
  pub has : (none : CellRun) → IsTrue (has_cell (slice_index_or runs place none) space address)

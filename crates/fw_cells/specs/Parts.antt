-- One run of cells: where a cell stands to it, and what replaces a part of it.
use Rattle.std.specs.Prelude.{◌≡◌, ◌≤◌, ℕ, ◌+◌, ◌-◌, nat_lt, slice_set, if◌then◌else◌, List, ◌++◌, length, take, drop, slice_index_or}
use Rattle.fw_cells.specs.declared.run.CellRun.{CellRun}
use Rattle.fw_cells.specs.declared.run.Side.{Side}
use Rattle.fw_cells.specs.declared.run.Side.TheVariants.{Before, In, Behind}
use Rattle.fw_cells.specs.Runs.{start_of, end_of}

-- where a place among all cells is to a run (own choice)
abbrev pub side_of : CellRun → ℕ → Side
side_of run place = if nat_lt place (start_of run) then Before else if nat_lt place (end_of run) then In else Behind

-- bytes where those from a place on are replaced by others (own choice)
abbrev pub with_part : List ℕ → ℕ → List ℕ → List ℕ
with_part bytes from part = take from bytes ++ (part ++ drop (from + length part) bytes)

-- a run where the bytes from a place in it on are replaced by others (own choice)
abbrev pub run_with : CellRun → ℕ → List ℕ → CellRun
run_with run from part = record run { bytes = with_part run.bytes from part }

-- this is where a place among all cells is to the run at a place in a list (own choice)
abbrev pub IsSideAt : List CellRun → ℕ → ℕ → Side → Type 0
IsSideAt runs at place side = (none : CellRun) → side ≡ side_of (slice_index_or runs at none) place

-- the runs are the old ones, but that bytes stand from an address of the run at a place on (own choice)
abbrev pub IsPutAt : List CellRun → ℕ → ℕ → List ℕ → List CellRun → Type 0
IsPutAt old at address part new = (none : CellRun)
    → let run = slice_index_or old at none in
    (address - run.first + length part ≤ length run.bytes) × (new ≡ slice_set old at (run_with run (address - run.first) part))

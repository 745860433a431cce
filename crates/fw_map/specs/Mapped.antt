-- Which cells of a machine are mapped.
use Rattle.std.specs.Prelude.{ℕ, List, ◌++◌, map}
use Rattle.apei_base.specs.declared.region.Space.{Space}
use Rattle.fw_map.specs.Map.{all_areas}
use Rattle.fw_map.specs.Registers.{runs_of}
use Rattle.fw_map.specs.declared.map.Map.{Map}
use Rattle.fw_map.specs.declared.run.Run.{Run}

-- a run as a space, the address of its first cell, and how many cells it has
abbrev pub listed : Run → Space × ℕ × ℕ
listed run = (run.space, run.first, run.bytes)

-- the mapped cells: those of the registers, of the areas of the sources, and of the areas of the injection table
abbrev pub mapped_runs : Map → List Run
mapped_runs map = runs_of map.registers.items ++ all_areas map

-- the same, listed
abbrev pub listed_runs : List Run → List (Space × ℕ × ℕ)
listed_runs runs = map listed runs

-- The map of a machine, and why tables have none.
use Rattle.std.specs.Prelude.{◌≡◌, List, ◌++◌, Option}
use Rattle.apei_hest.specs.declared.source.Ghes.{Ghes}
use Rattle.apei_einj.specs.declared.entry.Entry.{Entry}
use Rattle.fw_map.specs.Areas.{AreAreasOf, IsNarrow, lengths_of, trigger_areas, trigger_lengths}
use Rattle.fw_map.specs.Overlap.{AreApart, IsOverlap}
use Rattle.fw_map.specs.Placement.{ArePlaced}
use Rattle.fw_map.specs.Registers.{registers_of, entries_of, runs_of}
use Rattle.fw_map.specs.declared.error.FwError.{FwError}
use Rattle.fw_map.specs.declared.error.FwError.TheVariants.{Overlap, Room, Narrow, OutOfMemory}
use Rattle.fw_map.specs.declared.map.Map.{Map}
use Rattle.fw_map.specs.declared.run.Run.{Run}

-- all areas of a machine, in order: those of the sources, the trigger table and the trigger cell (own choice)
abbrev pub all_areas : Map → List Run
all_areas map = map.areas.items ++ trigger_areas map.trigger

-- This is the map of a machine with these enabled sources and this injection table: its registers are theirs, no two of them
-- clash, and its areas are placed in the order of the sources, before those of the injection table.
pub record IsMapOf (sources : List Ghes) (einj : Option (List Entry)) (map : Map) : Type 0 where
  pub registers : map.registers.items ≡ registers_of sources (entries_of einj)
  pub apart : AreApart map.registers.items
  pub areas : AreAreasOf (runs_of map.registers.items) sources map.areas.items
  pub trigger : lengths_of (trigger_areas map.trigger) ≡ trigger_lengths einj
  pub placed : ArePlaced (runs_of map.registers.items) (all_areas map)

-- why the machine has no map: two registers overlap, or none do and a status address register is too narrow (own choice)
abbrev pub IsRefusedWith : List Ghes → Option (List Entry) → FwError → Type 0
IsRefusedWith sources einj (Overlap first second space address) =
    IsOverlap (registers_of sources (entries_of einj)) first second space address
IsRefusedWith sources einj Room = ⊥
IsRefusedWith sources einj (Narrow id) =
    AreApart (registers_of sources (entries_of einj)) × IsNarrow (runs_of (registers_of sources (entries_of einj))) sources id
IsRefusedWith sources einj OutOfMemory = Unit {0}

use Rattle.std.proofs.Common.{get_or}
use Rattle.fw_map.specs.Map.{all_areas}
use Rattle.fw_map.specs.Registers.{runs_of}
use Rattle.fw_map.proofs.LawLemmas.{apart_owners, apart_register, apart_areas}
use Rattle.fw_map.proofs.laws.a_cell_of_a_map_has_one_owner.Goals as goal

pub returns-clause-registers : goal.returns-clause-registers
returns-clause-registers c = λ sources einj map i j none is less below differ.
    apart_owners (get_or map.registers.items i none) (get_or map.registers.items j none) (is.apart i j none less below) differ

pub returns-clause-areas : goal.returns-clause-areas
returns-clause-areas c = λ sources einj map i j no_register no_area is within below.
    apart_register map.registers.items (all_areas map) i j no_register no_area is.placed within below

pub returns-clause-apart : goal.returns-clause-apart
returns-clause-apart c = λ sources einj map i j none is less below. apart_areas (runs_of map.registers.items) (all_areas map) i j none is.placed less below

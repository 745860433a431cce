-- What keeps the cells of a source from one another: what a map gives to those who build its ports.
use Rattle.std.specs.Prelude.{◌≡◌, ◌≢◌, ◌≤◌, ◌<◌, ℕ, ◌^◌, false, List, length, slice_index_or}
use Rattle.std.specs.Option.{IfSome, option_map}
use Rattle.apei_base.specs.Bus.{Reach}
use Rattle.apei_base.specs.Firmware.{Layout, is_ack, block_status}
use Rattle.apei_base.specs.Region.{space_of, access_width}
use Rattle.apei_base.specs.declared.gas.Gas.{Gas}
use Rattle.apei_base.specs.declared.region.Space.TheVariants.{Memory}
use Rattle.apei_hest.specs.Source.{limit_of}
use Rattle.apei_hest.specs.declared.source.Ghes.{Ghes}
use Rattle.fw_map.specs.Areas.{reach_of_status}
use Rattle.fw_map.specs.Registers.{gas_run}
use Rattle.fw_map.specs.Runs.{end_of, shares}
use Rattle.fw_map.specs.declared.run.Run.{Run}

-- where the register that a generic address names is reached (ACPI 6.5, 5.2.3.2)
abbrev pub gas_reach : Gas → Reach
gas_reach gas = record { space = space_of gas.space; address = gas.address; width = access_width gas }

-- where a source is read whose area is this one (ACPI 6.5, 18.3.2.7 and 18.3.2.8)
abbrev pub layout_of : Ghes → Run → Layout
layout_of ghes area = record {
  status = gas_reach ghes.status;
  area = area.first;
  room = area.bytes;
  ack = option_map (λ ack. gas_reach ack.register) ghes.ack;
}

-- A source with its area: the area is as long as the limit, stands in memory, and not at 0, and its status address register
-- can say where; and no two of the registers and the area share a cell. So its read ack register is neither the block
-- status, which is the first 32 bits of the area, nor the status address register (own choice).
pub record IsToldApart (ghes : Ghes) (area : Run) : Type 0 where
  pub limit : area.bytes ≡ limit_of ghes
  pub memory : area.space ≡ Memory
  pub placed : area.first ≢ 0
  pub ends : end_of area ≤ 2 ^ 64
  pub fits : area.first < reach_of_status ghes
  pub status : shares (gas_run ghes.status) area ≡ false
  pub ack : IfSome ghes.ack (λ ack. shares (gas_run ack.register) area ≡ false)
  pub registers : IfSome ghes.ack (λ ack. shares (gas_run ghes.status) (gas_run ack.register) ≡ false)
  pub not_block_status : is_ack (layout_of ghes area) (block_status (layout_of ghes area)) ≡ false
  pub not_status : is_ack (layout_of ghes area) (layout_of ghes area).status ≡ false

-- each of the sources has its area, and is told apart from it
pub record AreToldApart (sources : List Ghes) (areas : List Run) : Type 0 where
  pub as_many : length areas ≡ length sources
  pub each : (k : ℕ) (no_source : Ghes) (no_area : Run) → k < length sources
      → IsToldApart (slice_index_or sources k no_source) (slice_index_or areas k no_area)

-- What the cells of one error source hold, and what one access answers and leaves.
use Rattle.std.specs.Prelude.{◌≡◌, ℕ, ◌-◌, ◌/◌, ◌%◌, ◌^◌, if◌then◌else◌, [], slice_index, Option, Some, None, unwrap_or}
use Rattle.apei_base.specs.Bus.{Reach, Cells, Access, Answers}
use Rattle.apei_base.specs.Firmware.{Seen, standing, status_value, after_access}
use Rattle.apei_base.specs.declared.region.Space.{Space}
use Rattle.fw_port.specs.Layout.{Stretch, register_cells, area_cells, is_within}

-- a byte of a number, counted from the lowest one, which is byte 0 (ACPI 6.5, 5.2)
abbrev pub number_byte : ℕ → ℕ → ℕ
number_byte value place = value / 256 ^ place % 256

-- the byte in a cell: that of the stretch where it is a cell of it, and else another one (own choice)
abbrev pub held : Stretch → (ℕ → ℕ) → Space → ℕ → Option ℕ → Option ℕ
held stretch byte space address other =
    if is_within stretch space address then Some (byte (address - stretch.1)) else other

-- the byte in a cell of the read ack register, where there is one (ACPI 6.5, 18.3.2.8)
abbrev pub ack_held : Option Reach → ℕ → Space → ℕ → Option ℕ
ack_held None cell space address = None
ack_held (Some register) cell space address = held (register_cells register) (number_byte cell) space address None

-- the byte at a place of the area: that of the standing block, and 0 behind its end or where none stands (own choice)
abbrev pub area_byte : Seen → ℕ → ℕ
area_byte seen place = slice_index (unwrap_or (standing seen) []) place

-- The byte in each cell of a source, none elsewhere. The status address register holds the address of the area, or 0
-- where no block has stood yet; the area holds the standing block, cut at its end or followed by zeros, or zeros where
-- none stands; and the read ack register holds what was written there (own choice, but for ACPI 6.5, 18.3.2.7 and
-- 18.3.2.8).
unfoldable pub source_cells : Seen → Cells
source_cells seen space address =
    held (register_cells seen.layout.status) (number_byte (status_value seen)) space address
    (held (area_cells seen.layout.area seen.layout.room) (area_byte seen) space address
    (ack_held seen.layout.ack seen.cell space address))

-- An access that succeeds. A read answers the value of its cells, and a copy their bytes. A 32-bit write of 0 at the
-- address of the area clears the block that stands there, a write to the read ack register leaves its low bits there and
-- ends the waiting, and nothing else changes anything (own choice).
pub record IsSourceStep (before : Seen) (access : Access) (after : Seen) : Type 0 where
  pub answers : Answers (Some (source_cells before)) access
  pub leaves : after ≡ after_access access before

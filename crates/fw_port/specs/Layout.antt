-- Where the cells of one error source stand: its registers and its area.
use Rattle.std.specs.Prelude.{◌≡◌, ◌≢◌, ◌≤◌, ◌<◌, ℕ, ◌+◌, ◌/◌, ◌^◌, Bool, false, ◌&&◌, nat_lt, nat_le, Option, IsTrue}
use Rattle.std.specs.Option.{ForSome}
use Rattle.apei_base.specs.Bus.{Reach, same_space}
use Rattle.apei_base.specs.Firmware.{Layout}
use Rattle.apei_base.specs.Width.{is_width}
use Rattle.apei_base.specs.declared.region.Space.{Space}
use Rattle.apei_base.specs.declared.region.Space.TheVariants.{Memory}

-- cells that follow one another: a space, the address of the first one, and how many they are (own choice)
abbrev pub Stretch : Type 0
Stretch = Space × ℕ × ℕ

-- the cells of a register (ACPI 6.5, 5.2.3.2)
abbrev pub register_cells : Reach → Stretch
register_cells reach = (reach.space, reach.address, reach.width / 8)

-- the cells of the area (ACPI 6.5, 18.3.2.7)
abbrev pub area_cells : ℕ → ℕ → Stretch
area_cells area room = (Memory, area, room)

-- a cell is one of the stretch (own choice)
abbrev pub is_within : Stretch → Space → ℕ → Bool
is_within stretch space address =
    same_space stretch.0 space && nat_le stretch.1 address && nat_lt address (stretch.1 + stretch.2)

-- two stretches that have a cell each have one in common (own choice)
abbrev pub share : Stretch → Stretch → Bool
share one other =
    same_space one.0 other.0 && nat_lt one.1 (other.1 + other.2) && nat_lt other.1 (one.1 + one.2)

-- A register of a source: it has the width of an access, no cell is past the greatest address, and none is in the area
-- (own choice).
pub record IsRegister (register : Reach) (area room : ℕ) : Type 0 where
  pub whole : IsTrue (is_width register.width)
  pub ends : register.address + register.width / 8 ≤ 2 ^ 64
  pub apart : share (register_cells register) (area_cells area room) ≡ false

-- The read ack register of a source is one, and shares no cell with the status address register (own choice).
pub record IsAckRegister (register status : Reach) (area room : ℕ) : Type 0 where
  pub is : IsRegister register area room
  pub other : share (register_cells register) (register_cells status) ≡ false

-- Where a source stands: its area has an address and room for the header of a block, its status address register is
-- wide enough for that address, and no two of its parts share a cell (own choice).
pub record IsLayout (status : Reach) (area room : ℕ) (ack : Option Reach) : Type 0 where
  pub placed : area ≢ 0
  pub header : 20 ≤ room
  pub ends : area + room ≤ 2 ^ 64
  pub wide : area < 2 ^ status.width
  pub status_is : IsRegister status area room
  pub ack_is : ForSome ack (λ register. IsAckRegister register status area room)

-- the layout of a source is one (own choice)
abbrev pub IsPlaced : Layout → Type 0
IsPlaced layout = IsLayout layout.status layout.area layout.room layout.ack

-- so many cells from an address on are in the area, from this place on (own choice)
pub record IsPlaceIn (area room first count place : ℕ) : Type 0 where
  pub here : area + place ≡ first
  pub within : place + count ≤ room

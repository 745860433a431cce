-- What the memory of one error source means to its receiver, beyond cells (own choice, but for what ACPI 6.5, 18.3.2.7
-- and 18.3.2.8 say of the registers and of the status block).
use Rattle.std.specs.Prelude.{◌≡◌, ◌≢◌, ◌≤◌, ◌<◌, ℕ, ◌+◌, ◌-◌, ◌^◌, Bool, true, false, ◌&&◌, ◌||◌, ◌==◌, nat_lt, if◌then◌else◌, List, [], ◌++◌, length, take, drop, replicate, slice_get, Option, Some, None, is_some, unwrap_or, IsTrue}
use Rattle.std.specs.List.{AllByRecursion}
use Rattle.apei_base.specs.Bus.{Reach, Access, Reads, Writes, Copies, same_reach}
use Rattle.apei_base.specs.Number.{number_at}
use Rattle.apei_base.specs.declared.region.Space.TheVariants.{Memory}

-- Where a source is read: its status address register, its area, which has an address and a length, and its read ack
-- register, if it has one.
pub record Layout : Type 0 where
  pub status : Reach
  pub area : ℕ
  pub room : ℕ
  pub ack : Option Reach

-- What a source's memory means: the layout, what the read ack register holds (0 where there is none), all blocks that
-- were made for it, in order, how many of them are acknowledged, whether the acknowledgement of a cleared block is
-- awaited, and how many accesses at most are to fail.
pub record Seen : Type 0 where
  pub layout : Layout
  pub cell : ℕ
  pub made : List (List ℕ)
  pub acknowledged : ℕ
  pub waits : Bool
  pub planned : ℕ

-- the blocks that are acknowledged, in order
abbrev pub acknowledged_blocks : Seen → List (List ℕ)
acknowledged_blocks seen = take seen.acknowledged seen.made

-- the block that stands: the first one that is not acknowledged, but none while an acknowledgement is awaited
abbrev pub standing : Seen → Option (List ℕ)
standing seen = if seen.waits then None else slice_get seen.made seen.acknowledged

-- the number of the block that stands, counted from 1
abbrev pub standing_number : Seen → ℕ
standing_number seen = seen.acknowledged + 1

-- a block has stood, now or before
abbrev pub has_stood : Seen → Bool
has_stood seen = nat_lt 0 seen.acknowledged || is_some (standing seen)

-- what the status address register says: where the area is, and 0 where no block has stood yet (ACPI 6.5, 18.3.2.7)
abbrev pub status_value : Seen → ℕ
status_value seen = if has_stood seen then seen.layout.area else 0

-- so many bytes of a block that is followed by zeros, behind so many that are passed over
abbrev pub shown : ℕ → ℕ → List ℕ → List ℕ
shown skip n block = take n (drop skip (block ++ replicate (skip + n) 0))

-- so many bytes of the area: those of the standing block, followed by zeros
abbrev pub area_bytes : ℕ → ℕ → Seen → List ℕ
area_bytes skip n seen = shown skip n (unwrap_or (standing seen) [])

-- this is it, where there is one
abbrev pub is_reach : Option Reach → Reach → Bool
is_reach None reach = false
is_reach (Some register) reach = same_reach register reach

-- this is the read ack register
abbrev pub is_ack : Layout → Reach → Bool
is_ack layout reach = is_reach layout.ack reach

-- the first 32 bits of the area, where the block status stands
abbrev pub block_status : Layout → Reach
block_status layout = record { space = Memory; address = layout.area; width = 32 }

-- the standing block was cleared, and so acknowledged; with a read ack register that is awaited next
abbrev pub cleared : Seen → Seen
cleared seen = record seen { acknowledged = seen.acknowledged + 1; waits = is_some seen.layout.ack }

-- the read ack register was written, which ends the waiting
abbrev pub ack_written : ℕ → Seen → Seen
ack_written value seen = record seen { cell = value; waits = false }

-- What an access leaves: a write of 0 to the block status of a standing block clears it, a write to the read ack register
-- acknowledges it, and nothing else changes anything.
unfoldable pub after_access : Access → Seen → Seen
after_access (Reads reach value) seen = seen
after_access (Copies address bytes) seen = seen
after_access (Writes reach value) seen =
    if same_reach reach (block_status seen.layout) && (value == 0) && is_some (standing seen) then cleared seen
    else if is_ack seen.layout reach then ack_written value seen
    else seen

-- What an access answers: a read of a register what that register says, and a copy within the area its bytes.
unfoldable pub IsAnswered : Access → Seen → Type 0
IsAnswered (Reads reach value) seen =
    (IsTrue (same_reach seen.layout.status reach) → value ≡ status_value seen)
    × (IsTrue (is_ack seen.layout reach) → value ≡ seen.cell)
IsAnswered (Writes reach value) seen = Unit {0}
IsAnswered (Copies address bytes) seen =
    seen.layout.area ≤ address → address + length bytes ≤ seen.layout.area + seen.layout.room
    → bytes ≡ area_bytes (address - seen.layout.area) (length bytes) seen

-- a block that firmware raises: it has room for the header of a block, and its block status is not 0
pub record IsRaised (block : List ℕ) : Type 0 where
  pub whole : 20 ≤ length block
  pub stands : number_at 0 4 block ≢ 0

-- what a read ack register can hold: a number of its width, and 0 where there is none (own choice)
abbrev pub FitsAck : Option Reach → ℕ → Type 0
FitsAck None cell = cell ≡ 0
FitsAck (Some register) cell = cell < 2 ^ register.width

-- What holds at all times, with so many accesses that failed.
pub record IsSound (seen : Seen) (faults : ℕ) : Type 0 where
  pub placed : seen.layout.area ≢ 0
  -- the read ack register is neither the block status nor the status address register
  pub apart : is_ack seen.layout (block_status seen.layout) ≡ false
  pub other : is_ack seen.layout seen.layout.status ≡ false
  pub fits : FitsAck seen.layout.ack seen.cell
  pub raised : AllByRecursion IsRaised seen.made
  pub few : length seen.made < 2 ^ 32 - 1
  pub made : seen.acknowledged ≤ length seen.made
  -- only a cleared block is awaited, and only at a read ack register
  pub awaited : IsTrue seen.waits → (0 < seen.acknowledged) × IsTrue (is_some seen.layout.ack)
  pub planned : faults ≤ seen.planned

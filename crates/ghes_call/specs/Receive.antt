-- How a source is received: what a call acknowledges with, and what belongs to the source's memory.
use Rattle.std.specs.Prelude.{◌≡◌, ℕ, ◌*◌, ◌%◌, ◌^◌, bit_and, bit_or, Option, Some, None}
use Rattle.apei_base.specs.Bus.{Reach}
use Rattle.apei_base.specs.Firmware.{Layout}

-- how a block is acknowledged: the read ack register, how far its bits are shifted up, which bits are kept, and which
-- are set (ACPI 6.5, 18.3.2.8)
pub record AckRuleSeen : Type 0 where
  pub register : Reach
  pub bit_offset : ℕ
  pub preserve : ℕ
  pub write : ℕ

-- where a source is read, how long a block is at most, and how one is acknowledged, if it is (ACPI 6.5, 18.3.2.7)
pub record ReceiveSeen : Type 0 where
  pub status : Reach
  pub limit : ℕ
  pub ack : Option AckRuleSeen

-- the register of a rule, if there is one
abbrev pub register_of : Option AckRuleSeen → Option Reach
register_of None = None
register_of (Some rule) = Some rule.register

-- what is written to acknowledge, told what the register holds: the kept bits and those that are set, cut to the width of
-- the register (ACPI 6.5, 18.3.2.8; shifts are those of whole numbers: own choice)
abbrev pub acknowledgement : AckRuleSeen → ℕ → ℕ
acknowledgement rule cell =
    bit_or (bit_and cell (rule.preserve * 2 ^ rule.bit_offset)) (rule.write * 2 ^ rule.bit_offset) % 2 ^ rule.register.width

-- The memory is that of the source: its registers, and an area as long as a block may be.
pub record IsOfSource (receive : ReceiveSeen) (layout : Layout) : Type 0 where
  pub status : receive.status ≡ layout.status
  pub area : receive.limit ≡ layout.room
  pub ack : register_of receive.ack ≡ layout.ack

-- What a simulated machine does to the memory of a source beside the receiver (own choice).
use Rattle.std.specs.Prelude.{◌≡◌, ◌≤◌, ℕ, ◌+◌, Option}
use Rattle.apei_base.specs.Firmware.{Seen}
use Rattle.fw_port.specs.Port.{cell_of}

-- what a read ack register holds, if there is one
abbrev pub ack_cell_of : Seen → Option ℕ
ack_cell_of seen = cell_of seen.layout.ack seen.cell

-- one access more is to fail, or one that was to fail already
pub record IsPlanned (before after : Seen) : Type 0 where
  pub kept : after ≡ record before { planned = after.planned }
  pub more : after.planned ≤ before.planned + 1

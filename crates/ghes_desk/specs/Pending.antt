-- The packets that wait for delivery.
use Rattle.std.specs.Prelude.{ℕ, Bool, List, length, nat_le}
use Rattle.ghes_call.specs.Packet.{PacketSeen}

-- the packets, the oldest first, and how many there may be (own choice)
pub record PendingSeen : Type 0 where
  pub packets : List PacketSeen
  pub slots : ℕ

-- each slot is taken
abbrev pub is_full : PendingSeen → Bool
is_full pending = nat_le pending.slots (length pending.packets)

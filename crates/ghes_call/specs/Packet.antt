-- What contracts see of an image on its way.
use Rattle.std.specs.Prelude.{ℕ, List, Option}
use Rattle.cper_block.specs.declared.malformed.Malformed.{Malformed}
use Rattle.ghes_call.specs.declared.packet.Packet.{Packet}

-- an image on its way without its memory: the position of its source, the block's number, why it is malformed, and its bytes
-- (own choice)
pub record PacketSeen : Type 0 where
  pub source : ℕ
  pub seq : ℕ
  pub reason : Option Malformed
  pub bytes : List ℕ

-- what is told of a packet
abbrev pub seen_of : Packet → PacketSeen
seen_of packet = record { source = packet.source; seq = packet.seq; reason = packet.reason; bytes = packet.bytes.bytes }

-- One call of the receiver on one thread: what it answers, and what it leaves of the source's memory and of the pending packets.
use Rattle.std.specs.Prelude.{◌≡◌, ◌<◌, ℕ, ◌+◌, Bool, false, List, [], ◌∷◌, ◌++◌, if◌then◌else◌, length, Option, Some, None, unwrap_or}
use Rattle.apei_base.specs.Firmware.{Seen, standing, standing_number, cleared}
use Rattle.cper_block.specs.Image.{image_reason}
use Rattle.cper_block.specs.declared.malformed.Malformed.{Malformed as Reason}
use Rattle.ghes_call.specs.Call.{Failure, BeforeCleared, Saw, acknowledges, ack_of, acknowledged_by}
use Rattle.ghes_call.specs.Packet.{PacketSeen}
use Rattle.ghes_call.specs.Receive.{AckRuleSeen}
use Rattle.ghes_call.specs.declared.call.AckState.{AckState}
use Rattle.ghes_call.specs.declared.call.AckState.TheVariants.{NotAsked}
use Rattle.ghes_call.specs.declared.call.Outcome.{Outcome}
use Rattle.ghes_call.specs.declared.call.Outcome.TheVariants.{Nothing, Queued, Malformed, Duplicate, Fatal, NoSlot, Fault, Stopped}
use Rattle.ghes_call.specs.declared.call.Reply.{Reply}
use Rattle.ghes_nmi.specs.Steps.{failure_of, CountsAck}
use Rattle.ghes_desk.specs.Found.{standing_image}
use Rattle.ghes_desk.specs.Pending.{PendingSeen}

-- where an access of a call failed, by what it answered (own choice)
abbrev pub failure_by : Outcome → AckState → Failure
failure_by Fault ack = BeforeCleared
failure_by Nothing ack = failure_of ack
failure_by (Queued number) ack = failure_of ack
failure_by (Malformed number reason) ack = failure_of ack
failure_by (Duplicate number report) ack = failure_of ack
failure_by (Fatal number) ack = failure_of ack
failure_by NoSlot ack = failure_of ack
failure_by Stopped ack = failure_of ack

-- what a call answers that is to answer this, but that the clear may fail
abbrev pub or_fault : Outcome → Outcome → Outcome
or_fault Fault wanted = Fault
or_fault Nothing wanted = wanted
or_fault (Queued number) wanted = wanted
or_fault (Malformed number reason) wanted = wanted
or_fault (Duplicate number report) wanted = wanted
or_fault (Fatal number) wanted = wanted
or_fault NoSlot wanted = wanted
or_fault Stopped wanted = wanted

-- what a reply leaves of the memory: a block that it acknowledged is cleared, and then the register acknowledged
abbrev pub left_by : Option AckRuleSeen → Reply → Seen → Seen
left_by rule reply port =
    if acknowledges reply.outcome then acknowledged_by rule (failure_by reply.outcome reply.ack) (cleared port) else port

-- the state of the acknowledgement by where an access failed
abbrev pub ack_by : Option AckRuleSeen → Reply → AckState
ack_by rule reply = if acknowledges reply.outcome then ack_of rule (failure_by reply.outcome reply.ack) else NotAsked

-- the count of failed accesses rose exactly where the reply says that an access failed, and then by one
abbrev pub CountsCall : Outcome → AckState → ℕ → ℕ → Type 0
CountsCall Fault ack before after = after ≡ before + 1
CountsCall Nothing ack before after = CountsAck ack before after
CountsCall (Queued number) ack before after = CountsAck ack before after
CountsCall (Malformed number reason) ack before after = CountsAck ack before after
CountsCall (Duplicate number report) ack before after = CountsAck ack before after
CountsCall (Fatal number) ack before after = CountsAck ack before after
CountsCall NoSlot ack before after = CountsAck ack before after
CountsCall Stopped ack before after = CountsAck ack before after

-- what a call answers behind a fatal one of its line
abbrev pub stopped_reply : Reply
stopped_reply = record { outcome = Stopped; ack = NotAsked }

-- what a call on one thread saw: no panic word that is set, the memory before it, the report that its image hits, whether each slot was
-- taken, and by what it answered where an access failed (own choice)
abbrev pub saw_by : Seen → Option ℕ → Bool → Reply → Saw
saw_by port found full reply = record {
  panic = false;
  port = port;
  hit = found;
  full = full;
  failed = failure_by reply.outcome reply.ack;
}

-- the packet of a block: its source, its number, why it is malformed, and its image
abbrev pub packet_of : ℕ → ℕ → Option Reason → List ℕ → PacketSeen
packet_of source seq reason bytes = record { source = source; seq = seq; reason = reason; bytes = bytes }

-- the packet of the block that stands under a limit
abbrev pub standing_packet : ℕ → ℕ → Seen → PacketSeen
standing_packet source limit port =
    packet_of source (standing_number port) (image_reason limit (unwrap_or (standing port) [])) (standing_image limit port)

-- the packets that are pending behind an outcome: Queued and Malformed make this one pending
abbrev pub queued_by : Outcome → PacketSeen → List PacketSeen → List PacketSeen
queued_by Nothing packet packets = packets
queued_by (Queued number) packet packets = packets ++ packet ∷ []
queued_by (Malformed number reason) packet packets = packets ++ packet ∷ []
queued_by (Duplicate number report) packet packets = packets
queued_by (Fatal number) packet packets = packets
queued_by NoSlot packet packets = packets
queued_by Fault packet packets = packets
queued_by Stopped packet packets = packets

abbrev pub pending_by : Outcome → PacketSeen → PendingSeen → PendingSeen
pending_by outcome packet pending = record pending { packets = queued_by outcome packet pending.packets }

-- the packet that a call hands back: that of a fatal block
abbrev pub fatal_by : Outcome → PacketSeen → Option PacketSeen
fatal_by Nothing packet = None
fatal_by (Queued number) packet = None
fatal_by (Malformed number reason) packet = None
fatal_by (Duplicate number report) packet = None
fatal_by (Fatal number) packet = Some packet
fatal_by NoSlot packet = None
fatal_by Fault packet = None
fatal_by Stopped packet = None

-- a slot is free where an outcome needs one (own choice)
abbrev pub HasRoomFor : Outcome → PendingSeen → Type 0
HasRoomFor Nothing pending = Unit {0}
HasRoomFor (Queued number) pending = length pending.packets < pending.slots
HasRoomFor (Malformed number reason) pending = length pending.packets < pending.slots
HasRoomFor (Duplicate number report) pending = Unit {0}
HasRoomFor (Fatal number) pending = Unit {0}
HasRoomFor NoSlot pending = Unit {0}
HasRoomFor Fault pending = Unit {0}
HasRoomFor Stopped pending = Unit {0}

-- What a replay has between two lines beside the memory of its sources, and what a line makes of it.
use Rattle.std.specs.Prelude.{◌≡◌, ℕ, ◌==◌, if◌then◌else◌, List, [], ◌∷◌, ◌++◌, map, true, false, Option, Some, None}
use Rattle.apei_base.specs.Firmware.{Seen}
use Rattle.ghes_call.specs.Call.{outcome_of}
use Rattle.ghes_call.specs.Packet.{PacketSeen}
use Rattle.ghes_call.specs.Receive.{ReceiveSeen}
use Rattle.ghes_call.specs.declared.call.Call.{Call}
use Rattle.ghes_call.specs.declared.call.Reply.{Reply}
use Rattle.ghes_ledger.specs.Kept.{Kept, nothing_kept, with_taken, panic_entry, mark_of}
use Rattle.ghes_ledger.specs.Reports.{hit}
use Rattle.ghes_desk.specs.Call.{left_by, ack_by, saw_by, CountsCall, standing_packet, queued_by, fatal_by}
use Rattle.ghes_desk.specs.Found.{standing_image}
use Rattle.ghes_desk.specs.Pending.{PendingSeen, is_full}

-- what is pending, the ledger, the time, how many blocks the lines made, and how many bytes a block has at most
pub record DeskSeen : Type 0 where
  pub pending : PendingSeen
  pub ledger : Kept
  pub clock : ℕ
  pub blocks : ℕ
  pub block_len : ℕ

-- nothing is pending, and nothing was entered
abbrev pub new_desk : ℕ → ℕ → DeskSeen
new_desk slots block_len = record { pending = record { packets = []; slots = slots }; ledger = nothing_kept; clock = 0; blocks = 0; block_len = block_len }

-- the ledger after these packets were taken at a time, each told by a look at the reports before it
abbrev pub drained : ℕ → List PacketSeen → Kept → Kept
drained time [] kept = kept
drained time (packet ∷ packets) kept = drained time packets (with_taken time (hit 4 kept.reports packet.bytes time) packet kept)

-- the ledger after these packets were entered in its panic list
abbrev pub panicked : List PacketSeen → Kept → Kept
panicked packets kept = record kept { panic = kept.panic ++ map (panic_entry false) packets }

-- after all that was pending was taken
abbrev pub worked : DeskSeen → DeskSeen
worked desk = record desk {
  pending = record desk.pending { packets = [] };
  ledger = drained desk.clock desk.pending.packets desk.ledger;
}

-- after a fatal packet: all that was pending stands in the panic list, and the fatal one behind it
abbrev pub panicked_by : Option PacketSeen → DeskSeen → DeskSeen
panicked_by None desk = desk
panicked_by (Some packet) desk = record desk {
  pending = record desk.pending { packets = [] };
  ledger = record desk.ledger { panic = (desk.ledger.panic ++ map (panic_entry false) desk.pending.packets) ++ panic_entry true packet ∷ [] };
}

-- after a call was entered in the ledger
abbrev pub entered : Call → DeskSeen → DeskSeen
entered call desk = record desk { ledger = record desk.ledger { calls = desk.ledger.calls ++ call ∷ [] } }

-- after the mark of a line
abbrev pub marked : ℕ → DeskSeen → DeskSeen
marked line desk = record desk { ledger = record desk.ledger { marks = desk.ledger.marks ++ mark_of line desk.ledger ∷ [] } }

-- with these packets pending
abbrev pub with_packets : List PacketSeen → DeskSeen → DeskSeen
with_packets packets desk = record desk { pending = record desk.pending { packets = packets } }

-- One call on a source at this position, whose memory meant this before and that behind it: its reply, and what it leaves of the memory
-- and of what is pending, are those of a call by what it saw; and the packet of a fatal block.
pub record IsAnswered (receive : ReceiveSeen) (s : ℕ) (port port' : Seen) (faults faults' : ℕ) (desk desk' : DeskSeen) (reply : Reply) (fatal : Option PacketSeen) : Type 0 where
  pub answers : reply.outcome ≡ outcome_of receive.limit (saw_by port (hit 4 desk.ledger.reports (standing_image receive.limit port) desk.clock) (is_full desk.pending) reply)
  pub asked : reply.ack ≡ ack_by receive.ack reply
  pub leaves : port' ≡ left_by receive.ack reply port
  pub counts : CountsCall reply.outcome reply.ack faults faults'
  pub pending : desk' ≡ with_packets (queued_by reply.outcome (standing_packet s receive.limit port) desk.pending.packets) desk
  pub fatal_is : fatal ≡ fatal_by reply.outcome (standing_packet s receive.limit port)

-- A line with one call, made by a context: the call is entered, and a fatal block makes the panic list.
pub record IsNmi (receive : ReceiveSeen) (context s : ℕ) (port port' : Seen) (faults faults' : ℕ) (desk desk' : DeskSeen) : Type 0 where
  pub reply : Reply
  pub fatal : Option PacketSeen
  pub between : DeskSeen
  pub call : IsAnswered receive s port port' faults faults' desk between reply fatal
  pub desk_is : desk' ≡ panicked_by fatal (entered (record { context = context; source = s; now = desk.clock; reply = reply }) between)

-- A call of a line with many, made by a context: it is not entered, and a fatal block makes the panic list.
pub record IsTurn (receive : ReceiveSeen) (context s : ℕ) (port port' : Seen) (faults faults' : ℕ) (desk desk' : DeskSeen) (call : Call) : Type 0 where
  pub fatal : Option PacketSeen
  pub between : DeskSeen
  pub call_is : call ≡ record { context = context; source = s; now = desk.clock; reply = call.reply }
  pub answered : IsAnswered receive s port port' faults faults' desk between call.reply fatal
  pub desk_is : desk' ≡ panicked_by fatal between

-- these calls on a source, entered in order
abbrev pub entered_on : ℕ → List Call → Kept → Kept
entered_on s [] kept = kept
entered_on s (call ∷ calls) kept = entered_on s calls (if call.source == s then record kept { calls = kept.calls ++ call ∷ [] } else kept)

-- these calls, entered source by source
abbrev pub entered_by : List ℕ → List Call → Kept → Kept
entered_by [] calls kept = kept
entered_by (s ∷ sources) calls kept = entered_by sources calls (entered_on s calls kept)

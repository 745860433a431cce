-- Names of blocks, and the packets that the entries of a ledger were.
use Rattle.std.specs.Prelude.{ℕ, ◌==◌, not, List, map, filter, Some, None}
use Rattle.std.specs.List.{flat_map}
use Rattle.ghes_call.specs.declared.call.Call.{Call}
use Rattle.ghes_call.specs.Packet.{PacketSeen}
use Rattle.ghes_ledger.specs.declared.ledger.PanicEntry.{PanicEntry}
use Rattle.ghes_ledger.specs.declared.ledger.Taken.{Taken}
use Rattle.ghes_ledger.specs.declared.ledger.Taken.TheVariants.{Delivered, Dropped}
use Rattle.ghes_ledger.specs.Outcomes.{pending_number, fatal_number}
use Rattle.ghes_ledger.specs.Plan.{Plan}

-- the packet that a taken block was (own choice)
abbrev pub packet_of : Taken → PacketSeen
packet_of (Delivered source seq bytes reported) = record { source = source; seq = seq; reason = None; bytes = bytes }
packet_of (Dropped source seq bytes reason) = record { source = source; seq = seq; reason = Some reason; bytes = bytes }

-- the packet that a block of the panic list was (own choice)
abbrev pub panic_packet : PanicEntry → PacketSeen
panic_packet entry = record { source = entry.source; seq = entry.seq; reason = entry.reason; bytes = entry.bytes }

-- the name of a block: its source and its number (own choice)
abbrev pub name_of : PacketSeen → ℕ × ℕ
name_of packet = (packet.source, packet.seq)

-- the names of the blocks that these calls answered Queued or Malformed, in order (own choice)
abbrev pub queued_names : List Call → List (ℕ × ℕ)
queued_names calls = flat_map (λ call. map (λ number. (call.source, number)) (pending_number call.reply.outcome)) calls

-- the names of the blocks that these calls answered Fatal, in order (own choice)
abbrev pub fatal_names : List Call → List (ℕ × ℕ)
fatal_names calls = flat_map (λ call. map (λ number. (call.source, number)) (fatal_number call.reply.outcome)) calls

-- the names of these taken blocks, in order (own choice)
abbrev pub taken_names : List Taken → List (ℕ × ℕ)
taken_names taken = map (λ entry. name_of (packet_of entry)) taken

-- the names of these blocks of a panic list, in order (own choice)
abbrev pub panic_names : List PanicEntry → List (ℕ × ℕ)
panic_names entries = map (λ entry. name_of (panic_packet entry)) entries

-- the blocks of a panic list that were pending (own choice)
abbrev pub waiting : List PanicEntry → List PanicEntry
waiting panic = filter (λ entry. not entry.fatal) panic

-- the blocks of a panic list that were fatal (own choice)
abbrev pub fatals : List PanicEntry → List PanicEntry
fatals panic = filter (λ entry. entry.fatal) panic

-- the names of the blocks whose source a context serves (own choice)
abbrev pub served_by : Plan → ℕ → List (ℕ × ℕ) → List (ℕ × ℕ)
served_by plan c names = filter (λ name. plan.server name.0 == c) names

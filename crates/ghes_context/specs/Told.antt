-- What a call makes of the view of its pass.
use Rattle.std.specs.Prelude.{◌≡◌, ◌⊎◌, ◌<◌, ℕ, Bool, true, false, List, [], Option, Some, None, unwrap_or}
use Rattle.cper_block.specs.declared.malformed.Malformed.{Malformed as Reason}
use Rattle.ghes_call.specs.declared.call.Outcome.{Outcome}
use Rattle.ghes_call.specs.declared.call.Outcome.TheVariants.{Nothing, Queued, Malformed, Duplicate, Fatal, NoSlot, Fault, Stopped}
use Rattle.ghes_rule.specs.declared.views.PacketView.{PacketView}
use Rattle.ghes_rule.specs.declared.views.PassView.{PassView}
use Rattle.ghes_rule.specs.declared.views.Pushed.{Pushed}
use Rattle.ghes_rule.specs.declared.views.Stage.TheVariants.{Idle}
use Rattle.ghes_rule.specs.declared.views.Turn.{Turn}
use Rattle.ghes_call.specs.declared.packet.Packet.{Packet}
use Rattle.ghes_context.specs.declared.ask.Kept.{Kept}
use Rattle.ghes_rule.specs.Kept.{packet_view}
use Rattle.ghes_rule.specs.Moves.{with_claim, without_claim, with_fatal}
use Rattle.ghes_rule.specs.Finds.{AreFinds, after_finds}
use Rattle.ghes_chain.specs.Push.{after_push}
use Rattle.apei_base.specs.Firmware.{Seen, standing, standing_number}
use Rattle.cper_block.specs.Image.{image_reason}
use Rattle.ghes_context.specs.Found.{standing_image}

-- a packet of a block: its source, its number, why it is malformed, and its image
abbrev pub packet_of : ℕ → ℕ → Option Reason → List ℕ → PacketView
packet_of source seq reason bytes = record { source = source; seq = seq; reason = reason; bytes = bytes }

-- the packet of the block that stands under a limit
abbrev pub standing_packet : ℕ → ℕ → Seen → PacketView
standing_packet source limit port =
    packet_of source (standing_number port) (image_reason limit (unwrap_or (standing port) [])) (standing_image limit port)

-- the push of a packet by a pass, under its claim of a slot
abbrev pub push_by : PassView → ℕ → ℕ → PacketView → Pushed
push_by v slot turn packet = record { pass = v.number; slot = slot; turn = turn; packet = packet }

-- a pass that holds a slot, by how the call ended: it gave the slot up where the clear failed, and else pushed the packet
abbrev pub slot_spent : Outcome → ℕ → ℕ → PacketView → PassView → PassView
slot_spent Fault slot turn packet v = without_claim v
slot_spent Nothing slot turn packet v = after_push v (push_by v slot turn packet)
slot_spent (Queued number) slot turn packet v = after_push v (push_by v slot turn packet)
slot_spent (Malformed number reason) slot turn packet v = after_push v (push_by v slot turn packet)
slot_spent (Duplicate number report) slot turn packet v = after_push v (push_by v slot turn packet)
slot_spent (Fatal number) slot turn packet v = after_push v (push_by v slot turn packet)
slot_spent NoSlot slot turn packet v = after_push v (push_by v slot turn packet)
slot_spent Stopped slot turn packet v = after_push v (push_by v slot turn packet)

-- the pass found running claims of the slots below one, claimed that one, and pushed the packet or gave the slot up
pub record HasClaimed (k : ℕ) (packet : PacketView) (v v' : PassView) (outcome : Outcome) : Type 0 where
  pub slot : ℕ
  pub turn : ℕ
  pub finds : List Turn
  pub are : AreFinds v.since slot finds
  pub inside : slot < k
  pub view : v' ≡ slot_spent outcome slot turn packet (with_claim (after_finds v slot finds) slot turn)

-- the pass looked at each slot once, in order, and found a claim running in each
pub record HasFoundAll (k : ℕ) (v v' : PassView) : Type 0 where
  pub finds : List Turn
  pub are : AreFinds v.since k finds
  pub view : v' ≡ after_finds v k finds

-- What a call makes of the view of its pass behind the load of the panic word, by its outcome (own choice).
abbrev pub HasTold : ℕ → PacketView → PassView → PassView → Outcome → Type 0
HasTold k packet v v' Nothing = v' ≡ v
HasTold k packet v v' Stopped = v' ≡ v
HasTold k packet v v' (Duplicate number report) = v' ≡ v
HasTold k packet v v' (Queued number) = HasClaimed k packet v v' (Queued number)
HasTold k packet v v' (Malformed number reason) = HasClaimed k packet v v' (Malformed number reason)
HasTold k packet v v' (Fatal number) = v' ≡ with_fatal v packet
HasTold k packet v v' NoSlot = HasFoundAll k v v'
HasTold k packet v v' Fault = (v' ≡ v) ⊎ HasClaimed k packet v v' Fault

-- the fatal block that a context keeps, if it keeps one
abbrev pub told_if : Bool → Packet → Option PacketView
told_if true packet = Some (packet_view packet)
told_if false packet = None

abbrev pub told_by : Kept → Option PacketView
told_by kept = told_if kept.is_some kept.packet

-- a pass by how a call on a fatal block ended: where the clear failed it is as it was
abbrev pub stopped_by : Outcome → PacketView → PassView → PassView
stopped_by Fault packet v = v
stopped_by Nothing packet v = with_fatal v packet
stopped_by (Queued number) packet v = with_fatal v packet
stopped_by (Malformed number reason) packet v = with_fatal v packet
stopped_by (Duplicate number report) packet v = with_fatal v packet
stopped_by (Fatal number) packet v = with_fatal v packet
stopped_by NoSlot packet v = with_fatal v packet
stopped_by Stopped packet v = with_fatal v packet

-- between two calls a pass holds no claim, and keeps its number and its room
pub record IsSeated (v v' : PassView) : Type 0 where
  pub idle : v'.stage ≡ Idle
  pub number : v'.number ≡ v.number
  pub room : v'.room ≡ v.room

-- Each pending packet is the image of a block, and the report cache has room for it.
use Rattle.std.proofs.Common.{◌≡◌, ◌≤◌, ℕ, ◌-◌, Bool, true, false, cond, ltb, List, [], ◌∷◌, ◌++◌, length, take, replicate, refl, sym, subst, arith, Option, Some, None, unwrap_or}
use Rattle.std.specs.Prelude.{Result, Ok, Err, IfOk, OnErr}
use Rattle.std.proofs.lemmas.Bool.{ltb-false}
use Rattle.std.proofs.lemmas.List.{length-append, length-take, length-replicate}
use Rattle.apei_base.specs.Firmware.{Seen, standing}
use Rattle.cper_block.specs.Header.{header_of, header_size, block_length, header_reason}
use Rattle.cper_block.specs.Image.{padded, image_by, image_of}
use Rattle.cper_block.specs.declared.header.Header.{Header}
use Rattle.cper_block.specs.declared.malformed.Malformed.{Malformed as Reason}
use Rattle.cper_block.specs.declared.malformed.Malformed.TheVariants.{TooShort, TooLong}
use Rattle.ghes_call.specs.Packet.{PacketSeen}
use Rattle.ghes_call.specs.declared.call.Outcome.{Outcome}
use Rattle.ghes_call.specs.declared.call.Outcome.TheVariants.{Nothing, Queued, Malformed, Duplicate, Fatal, NoSlot, Fault, Stopped}
use Rattle.ghes_desk.specs.Cache.{AreWithin}
use Rattle.ghes_desk.specs.Call.{standing_packet, queued_by, pending_by}
use Rattle.ghes_desk.specs.Pending.{PendingSeen}

length-padded : (n : ℕ) (block : List ℕ) → length (padded n block) ≡ n
length-padded n block =
    let zero : ℕ = 0 in
    let zeros : List ℕ = replicate (n - length block) zero in
    omega (arith, length-append (take n block) zeros, length-take n block, length-replicate (n - length block) zero)

-- a header that is not refused says no length above the limit
not_longer : (header : Header) (limit : ℕ) → header_reason header limit ≡ None → block_length header ≤ limit
not_longer header limit none = by_case _ TooShort TooLong (ltb (block_length header) header_size) (ltb limit (block_length header)) refl none where
  by_case : (rest : Option Reason) (short long : Reason) (b d : Bool) → ltb limit (block_length header) ≡ d → cond b (Some short) (cond d (Some long) rest) ≡ None → block_length header ≤ limit
  by_case rest short long true d is e = absurd cc
  by_case rest short long false true is e = absurd cc
  by_case rest short long false false is e = ltb-false limit (block_length header) is

-- an image is no longer than the limit of its block
image_within : (limit : ℕ) (block : List ℕ) → 20 ≤ limit → length (image_of limit block) ≤ limit
image_within limit block header = by_case (header_reason (header_of (padded header_size block)) limit) refl where
  by_case : (reason : Option Reason) → header_reason (header_of (padded header_size block)) limit ≡ reason → length (image_by reason block) ≤ limit
  by_case (Some reason) is = omega (arith, length-padded header_size block)
  by_case None is =
      let front = header_of (padded header_size block) in
      omega (arith, length-padded (block_length front) block, not_longer front limit is)

within_more : (n : ℕ) (packets : List PacketSeen) (packet : PacketSeen) → length packet.bytes ≤ n → AreWithin n packets → AreWithin n (packets ++ packet ∷ [])
within_more n [] packet fits all = (fits, tt)
within_more n (p ∷ packets) packet fits all = (all.0, within_more n packets packet fits all.1)

within_queued : (n : ℕ) (outcome : Outcome) (packet : PacketSeen) (packets : List PacketSeen) → length packet.bytes ≤ n → AreWithin n packets → AreWithin n (queued_by outcome packet packets)
within_queued n Nothing packet packets fits all = all
within_queued n (Queued number) packet packets fits all = within_more n packets packet fits all
within_queued n (Malformed number reason) packet packets fits all = within_more n packets packet fits all
within_queued n (Duplicate number report) packet packets fits all = all
within_queued n (Fatal number) packet packets fits all = all
within_queued n NoSlot packet packets fits all = all
within_queued n Fault packet packets fits all = all
within_queued n Stopped packet packets fits all = all

-- behind a call each pending packet has room: by its outcome, and by what it answered
within_call : (n limit s : ℕ) (port : Seen) (outcome : Outcome) (packets : List PacketSeen) → 20 ≤ limit → limit ≤ n → AreWithin n packets → AreWithin n (queued_by outcome (standing_packet s limit port) packets)
within_call n limit s port outcome packets header limit_is all =
    within_queued n outcome (standing_packet s limit port) packets (omega (arith, image_within limit (unwrap_or (standing port) []) header)) all

pub within_after : {A E : Type 0} (n limit s : ℕ) (port : Seen) (outcome : A → Outcome) (result : Result A E) (before after : PendingSeen) → 20 ≤ limit → limit ≤ n → IfOk result (λ answer. after ≡ pending_by (outcome answer) (standing_packet s limit port) before) → OnErr result (after ≡ before) → AreWithin n before.packets → AreWithin n after.packets
within_after n limit s port outcome (Ok answer) before after header limit_is ok err all =
    subst (λ pending. AreWithin n pending.packets) (sym ok) (within_call n limit s port (outcome answer) before.packets header limit_is all)
within_after n limit s port outcome (Err error) before after header limit_is ok err all = subst (λ pending. AreWithin n pending.packets) (sym err) all

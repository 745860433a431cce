-- The blocks of a lawful ledger may be printed.
use Rattle.std.proofs.Common.{◌≡◌, ◌≤◌, ℕ, List, [], ◌∷◌, ◌++◌, sym, subst, ◌∙◌, Option, Some, None}
use Rattle.std.specs.List.{AllByRecursion}
use Rattle.cper_block.specs.Header.{header_of, header_reason}
use Rattle.cper_block.specs.Image.{padded, image_of, image_reason_by}
use Rattle.cper_block.specs.Reason.{reason_of}
use Rattle.cper_block.specs.declared.malformed.Malformed.{Malformed}
use Rattle.cper_block.proofs.ReasonLemmas.{reason_wider}
use Rattle.ghes_call.specs.Packet.{PacketSeen}
use Rattle.ghes_ledger.specs.declared.ledger.PanicEntry.{PanicEntry}
use Rattle.ghes_ledger.specs.declared.ledger.Taken.{Taken}
use Rattle.ghes_ledger.specs.History.{Act, Executed, taken_in, Each}
use Rattle.ghes_ledger.specs.Kept.{Kept}
use Rattle.ghes_ledger.specs.Lawful.{IsImageIn, IsLawfulLine, IsLawful}
use Rattle.ghes_ledger.specs.Names.{packet_of, panic_packet}
use Rattle.ghes_ledger.specs.Plan.{Plan}
use Rattle.ghes_report.specs.Sound.{IsSoundWith, IsSoundTaken, IsSoundEntry, IsSound}

-- an image without a reason under its own limit
sound_by : (front : Option Malformed) (limit : ℕ) (image : List ℕ) → limit ≤ 65536 → image_reason_by front limit image ≡ None → reason_of image 65536 ≡ None
sound_by (Some reason) limit image few none = let never : Some reason ≡ None = none in absurd cc
sound_by None limit image few none = reason_wider image limit 65536 few none

-- the image of a block under a limit
sound_image : (plan : Plan) (history : List Executed) (packet : PacketSeen) → plan.limit packet.source ≤ 65536 → IsImageIn plan history packet → IsSoundWith packet.reason packet.bytes
sound_image plan history packet few image none =
    let l = plan.limit packet.source in
    let P : List ℕ → Type 0 = λ bytes. reason_of bytes 65536 ≡ None in
    subst P (sym image.bytes) (sound_by (header_reason (header_of (padded 20 image.block)) l) l (image_of l image.block) few (sym image.reason ∙ none))

taken_sound : (plan : Plan) (history : List Executed) (taken : List Taken) → ((s : ℕ) → plan.limit s ≤ 65536) → AllByRecursion (λ entry. IsImageIn plan history (packet_of entry)) taken → AllByRecursion IsSoundTaken taken
taken_sound plan history [] few all = tt
taken_sound plan history (entry ∷ taken) few all =
    (sound_image plan history (packet_of entry) (few (packet_of entry).source) all.0, taken_sound plan history taken few all.1)

panic_sound : (plan : Plan) (history : List Executed) (panic : List PanicEntry) → ((s : ℕ) → plan.limit s ≤ 65536) → AllByRecursion (λ entry. IsImageIn plan history (panic_packet entry)) panic → AllByRecursion IsSoundEntry panic
panic_sound plan history [] few all = tt
panic_sound plan history (entry ∷ panic) few all =
    (sound_image plan history (panic_packet entry) (few (panic_packet entry).source) all.0, panic_sound plan history panic few all.1)

both : (xs ys : List Taken) → AllByRecursion IsSoundTaken xs → AllByRecursion IsSoundTaken ys → AllByRecursion IsSoundTaken (xs ++ ys)
both [] ys front back = back
both (x ∷ xs) ys front back = (front.0, both xs ys front.1 back)

all_taken_sound : (plan : Plan) (history : List Executed) → ((s : ℕ) → plan.limit s ≤ 65536) → Each (IsLawfulLine plan) history → AllByRecursion IsSoundTaken (taken_in history)
all_taken_sound plan [] few each = tt
all_taken_sound plan (line ∷ before) few each =
    both (taken_in before) line.taken (all_taken_sound plan before few each.0) (taken_sound plan before line.taken few each.1.images)

pub lawful_sound : (plan : Plan) (lines : List Act) (kept : Kept) (history : List Executed) → ((s : ℕ) → plan.limit s ≤ 65536) → IsLawful plan lines kept history → IsSound kept
lawful_sound plan lines kept history few l =
    let P : List Taken → Type 0 = λ taken. AllByRecursion IsSoundTaken taken in
    record {
      taken = subst P (sym l.beside.taken) (all_taken_sound plan history few l.each_line);
      panic = panic_sound plan history kept.panic few l.panic_images;
    }

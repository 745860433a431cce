-- Why an image is malformed, where its header is not refused; and the image of a well-formed block.
use Rattle.std.proofs.Common.{◌≡◌, ◌≤◌, ℕ, ◌+◌, ◌-◌, min, List, ◌++◌, length, take, drop, sym, ap, ◌∙◌, arith, append-nil, Option, None}
use Rattle.std.specs.Prelude.{replicate}
use Rattle.std.proofs.lemmas.List.{length-take-le, take-append-drop, take_all}
use Rattle.apei_base.specs.Number.{number_at}
use Rattle.cper_block.specs.Block.{Judges}
use Rattle.cper_block.specs.Header.{header_of, block_length, header_reason}
use Rattle.cper_block.specs.Image.{padded, image_by, image_of, image_reason_by, image_reason}
use Rattle.cper_block.specs.declared.malformed.Malformed.{Malformed}
use Rattle.cper_block.proofs.EntryLemmas.{number_at-append}
use Rattle.cper_block.proofs.PartLemmas.{front_none, is_at_hand, front_is}
use Rattle.cper_block.proofs.ReasonLemmas.{judgement_is_reason, header_wider}

-- an image whose header is not refused is judged as a block
pub judged_image : (limit : ℕ) (block image : List ℕ) (answer : Option Malformed) → None ≡ header_reason (header_of (padded 20 block)) limit → image ≡ padded (block_length (header_of (padded 20 block))) block → Judges image limit answer → answer ≡ image_reason limit block
judged_image limit block image answer sound is judged =
    judgement_is_reason image limit answer judged ∙ ap (λ xs. image_reason_by None limit xs) is
    ∙ ap (λ front. image_reason_by front limit (image_by front block)) sound

-- no zeros are behind a front that is at hand
padded_front : (n : ℕ) (block : List ℕ) → n ≤ length block → padded n block ≡ take n block
padded_front n block at_hand =
    let none : n - length block ≡ 0 = omega arith in
    ap (λ k. take n block ++ replicate k 0) none ∙ append-nil (take n block)

-- the header is read from its own bytes
header_of-front : (block : List ℕ) → 20 ≤ length block → header_of (take 20 block) ≡ header_of block
header_of-front block long =
    let size = length-take-le 20 block long in
    let whole : header_of (take 20 block ++ drop 20 block) ≡ header_of block = ap header_of (take-append-drop 20 block) in
    let same : (offset : ℕ) → offset + 4 ≤ 20 → number_at offset 4 (take 20 block) ≡ number_at offset 4 (take 20 block ++ drop 20 block) =
    λ offset within. sym (number_at-append offset 4 (take 20 block) (drop 20 block) (omega (arith, size, within))) in
    let parts : header_of (take 20 block) ≡ header_of (take 20 block ++ drop 20 block) =
    cc (same 0 (omega arith), same 4 (omega arith), same 8 (omega arith), same 12 (omega arith), same 16 (omega arith)) in
    parts ∙ whole

-- the image of a well-formed block is the block
pub image_of_block : (block : List ℕ) (limit : ℕ) → Judges block limit None → image_of limit block ≡ take (block_length (header_of block)) block
image_of_block block limit judged =
    let long = (front_is block limit judged).long in
    let header : header_of (padded 20 block) ≡ header_of block = ap header_of (padded_front 20 block long) ∙ header_of-front block long in
    let none : header_reason (header_of block) limit ≡ None =
    header_wider (header_of block) (min (length block) limit) limit (omega arith) (front_none block limit judged) in
    ap (λ h. image_by (header_reason h limit) block) header ∙ ap (λ reason. image_by reason block) none
    ∙ ap (λ h. padded (block_length h) block) header ∙ padded_front (block_length (header_of block)) block (is_at_hand block limit judged)

-- and where nothing stands behind it, it is the whole
pub image_of_whole : (block : List ℕ) (limit : ℕ) → Judges block limit None → length block ≡ block_length (header_of block) → image_of limit block ≡ block
image_of_whole block limit judged size =
    image_of_block block limit judged ∙ ap (λ n. take n block) (sym size) ∙ take_all (length block) block (omega arith)

-- The bytes of a block that is followed by zeros.
use Rattle.std.proofs.Common.{◌≡◌, ◌<◌, ◌+◌, ◌-◌, ℕ, List, ◌++◌, length, get_or, slice_index, drop, replicate, sym, ◌∙◌, arith, ⊎_elim, length-append, length-drop}
use Rattle.std.proofs.lemmas.Bool.{cases_lt}
use Rattle.std.proofs.lemmas.List.{ext_get_or, get_or-take, get_or-drop, get_or_append_left, get_or_past, get_or-replicate, length-take, length-replicate}
use Rattle.std.proofs.Math.Seq.{get_or-append_right}
use Rattle.apei_base.specs.Firmware.{shown}

-- a read of zeros gives 0, past their end too
get_or-zeros : (n place : ℕ) → get_or {A = ℕ} (replicate n 0) place 0 ≡ 0
get_or-zeros n place =
    ⊎_elim (λ within. get_or-replicate n place 0 0 within) (λ past. get_or_past (replicate n 0) place 0 (rw length-replicate past))
    (cases_lt place n)

-- a zero behind a block is what a read past its end gives
get_or-padded : (block : List ℕ) (n place : ℕ) → get_or (block ++ replicate n 0) place 0 ≡ get_or block place 0
get_or-padded block n place =
    let zeros : List ℕ = replicate n 0 in
    ⊎_elim (λ within. get_or_append_left block zeros 0 place within)
    (λ past. get_or-append_right block zeros place 0 past ∙ get_or-zeros n (place - length block) ∙ sym (get_or_past block place 0 past))
    (cases_lt place (length block))

-- as many bytes are shown as are asked for
pub length-shown : (skip n : ℕ) (block : List ℕ) → length (shown skip n block) ≡ n
length-shown skip n block = grind (arith, length-take {A = ℕ}, length-drop {A = ℕ}, length-append {A = ℕ}, length-replicate {A = ℕ})

-- bytes that stand one by one in a block are the bytes that it shows
pub shown_from_each : (skip : ℕ) (block bytes : List ℕ) → ((k : ℕ) → k < length bytes → slice_index bytes k ≡ slice_index block (skip + k)) → bytes ≡ shown skip (length bytes) block
shown_from_each skip block bytes each =
    ext_get_or 0 bytes (shown skip (length bytes) block) (sym (length-shown skip (length bytes) block))
    (λ k below.
    let padded = block ++ replicate (skip + length bytes) 0 in
    each k below ∙ sym (get_or-take (length bytes) (drop skip padded) k 0 below ∙ get_or-drop skip padded k 0 ∙ get_or-padded block (skip + length bytes) (skip + k)))

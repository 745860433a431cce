-- The bytes of a block that is cut or followed by zeros.
use Rattle.std.proofs.Common.{◌≡◌, ◌<◌, ◌+◌, ◌-◌, ℕ, List, ◌++◌, length, get_or, replicate, refl, sym, ◌∙◌, arith, ⊎_elim, length-append}
use Rattle.std.proofs.lemmas.Bool.{cases_lt}
use Rattle.std.proofs.lemmas.List.{get_or-take, get_or_append_left, get_or_past, get_or-replicate, length-take, length-replicate, get_or-append_right}
use Rattle.apei_base.specs.Firmware.{shown}

-- as many bytes are shown as are asked for
pub length-shown : (n : ℕ) (block : List ℕ) → length (shown 0 n block) ≡ n
length-shown n block = grind (arith, length-take {A = ℕ}, length-append {A = ℕ}, length-replicate {A = ℕ})

-- each byte that is shown is the block's, or 0 behind its end
pub get_or-shown : (n : ℕ) (block : List ℕ) (k : ℕ) → k < n → get_or (shown 0 n block) k 0 ≡ get_or block k 0
get_or-shown n block k below =
    get_or-take n (block ++ replicate (0 + n) 0) k 0 below
    ∙ ⊎_elim (λ within. get_or_append_left block (replicate (0 + n) 0) 0 k within)
    (λ past. get_or-append_right block (replicate (0 + n) 0) (length block) k 0 refl past
    ∙ get_or-replicate (0 + n) (k - length block) 0 0 (omega arith) ∙ sym (get_or_past block k 0 past))
    (cases_lt k (length block))

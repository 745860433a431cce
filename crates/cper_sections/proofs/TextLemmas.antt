-- The first 0 of a text.
use Rattle.std.proofs.Common.{◌≡◌, ◌≤◌, ℕ, Bool, true, false, cond, ltb, List, length, take, refl, sym, ap, ◌∙◌, Some, None, arith}
use Rattle.std.specs.Prelude.{unwrap_or}
use Rattle.std.specs.List.{before_first, position_from, position_or_len}
use Rattle.std.proofs.lemmas.Bool.{ltb-false}
use Rattle.std.proofs.lemmas.Iterator.Adapters.{position_from-zero}
use Rattle.std.proofs.lemmas.List.Sums.{prefix_len-le-length}

-- a number that is at most a bound, or else the bound
number_or_bound : (b : Bool) (n bound : ℕ) → ltb n bound ≡ b → n ≤ bound → unwrap_or (cond b (Some n) None) bound ≡ n
number_or_bound true n bound is within = refl
number_or_bound false n bound is within = omega (arith, ltb-false n bound is)

-- so many bytes as stand before the first that passes: of 65 66 0 67 the first two
pub take_to_first : (p : ℕ → Bool) (xs : List ℕ) → take (unwrap_or (position_from p 0 xs) (length xs)) xs ≡ before_first p xs
take_to_first p xs =
    let place = position_or_len p xs in
    ap (λ found. take (unwrap_or found (length xs)) xs) (sym (position_from-zero p xs))
    ∙ ap (λ n. take n xs) (number_or_bound (ltb place (length xs)) place (length xs) refl (prefix_len-le-length _ xs))

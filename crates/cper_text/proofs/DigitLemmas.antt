-- Digits of the lowest bytes of a number, and of bytes in pieces.
use Rattle.std.proofs.Common.{◌≡◌, ◌≤◌, ℕ, zero, suc, ◌+◌, ◌-◌, ◌/◌, ◌%◌, List, [], ◌∷◌, ◌++◌, length, take, drop, refl, sym, ap, ◌∙◌, arith, zero-add}
use Rattle.std.proofs.lemmas.List.{take-append-drop}
use Rattle.std.specs.Prelude.{slice_index}
use Rattle.std.specs.Int.{bytes_high_first}
use Rattle.hex.specs.Hex.{encode_with, encode_lower}

-- behind the highest bytes of a number stand its lowest
high_first-drop : (k width n : ℕ) → drop k (bytes_high_first (k + width) n) ≡ bytes_high_first width n
high_first-drop zero width n = ap (λ m. bytes_high_first m n) (zero-add width)
high_first-drop (suc k) width n =
    let more : suc k + width ≡ suc (k + width) = omega arith in
    ap (λ m. drop (suc k) (bytes_high_first m n)) more ∙ high_first-drop k width n

pub low_bytes : (width n : ℕ) → width ≤ 8 → drop (8 - width) (bytes_high_first 8 n) ≡ bytes_high_first width n
low_bytes width n few =
    let parts : 8 ≡ (8 - width) + width = omega arith in
    ap (λ m. drop (8 - width) (bytes_high_first m n)) parts ∙ high_first-drop (8 - width) width n

-- digits in two pieces
encode_with-append : (t xs ys : List ℕ) → encode_with t (xs ++ ys) ≡ encode_with t xs ++ encode_with t ys
unfolding encode_with
encode_with-append t [] ys = refl
encode_with-append t (x ∷ xs) ys = ap (λ rest. slice_index t (x / 16) ∷ slice_index t (x % 16) ∷ rest) (encode_with-append t xs ys)

-- a front and what is behind it
pub digits_cut : (n : ℕ) (xs front back : List ℕ) → front ≡ take n xs → back ≡ drop n xs → encode_lower front ++ encode_lower back ≡ encode_lower xs
digits_cut n xs front back is_front is_back =
    ap (λ ys. encode_lower ys ++ encode_lower back) is_front ∙ ap (λ ys. encode_lower (take n xs) ++ encode_lower ys) is_back
    ∙ sym (encode_with-append _ (take n xs) (drop n xs)) ∙ ap encode_lower (take-append-drop n xs)

-- none of no bytes
pub digits_none : (xs : List ℕ) → length xs ≡ 0 → encode_lower xs ≡ []
unfolding encode_with
digits_none [] none = refl
digits_none (x ∷ xs) none = absurd (omega arith)

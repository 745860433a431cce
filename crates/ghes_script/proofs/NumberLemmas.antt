-- The number that digits spell, read from the left.
use Rattle.std.proofs.Common.{◌≡◌, ◌<◌, ◌≤◌, ◌+◌, ◌*◌, ◌^◌, ℕ, Bool, List, [], ◌∷◌, length, cond, ltb, ◌&&◌, true, false, Option, Some, None, refl, sym, ap, subst, ◌∙◌, arith}
use Rattle.std.specs.List.{list_all}
use Rattle.std.specs.Char.{digit_value, is_digit}
use Rattle.std.specs.Str.Parse.{digits_value_after, digits_value}
use Rattle.std.proofs.lemmas.Bool.{lt-ltb, le-ltb}
use Rattle.std.proofs.Math.Nat.{mul-le-mul_left}
use Rattle.ghes_script.specs.Number.{numeral}

-- the number that digits spell behind those of the value so far, if it is below 2^64
unfoldable pub numeral_after : ℕ → ℕ → List ℕ → Option ℕ
numeral_after base value digits =
    cond (list_all (λ c. is_digit c base) digits && ltb (digits_value_after base value digits) (2 ^ 64)) (Some (digits_value_after base value digits)) None

-- a value grows by its digits
grows : (base value : ℕ) (digits : List ℕ) → 0 < base → value ≤ digits_value_after base value digits
grows base value [] some = omega arith
grows base value (c ∷ cs) some =
    let more = grows base (value * base + digit_value c) cs some in
    let low : 1 ≤ base = omega arith in
    let here : value * 1 ≤ value * base = mul-le-mul_left value low in
    omega (arith, more, here)

-- some digits at least
pub numeral-some : (base : ℕ) (digits : List ℕ) → 0 < length digits → numeral base digits ≡ numeral_after base 0 digits
unfolding numeral numeral_after
numeral-some base digits some = ap (λ b. cond (b && (list_all (λ c. is_digit c base) digits && ltb (digits_value base digits) (2 ^ 64))) (Some (digits_value base digits)) None) (lt-ltb 0 (length digits) some)

-- no digits
pub numeral-none : (base : ℕ) (digits : List ℕ) → length digits ≡ 0 → numeral base digits ≡ None
unfolding numeral
numeral-none base digits none = ap (λ n. cond (ltb 0 n && (list_all (λ c. is_digit c base) digits && ltb (digits_value base digits) (2 ^ 64))) (Some (digits_value base digits)) None) none

-- at the end the value is the number
pub numeral_after-end : (base value : ℕ) → value < 2 ^ 64 → numeral_after base value [] ≡ Some value
unfolding numeral_after
numeral_after-end base value small = ap (λ b. cond b (Some value) None) (lt-ltb value (2 ^ 64) small)

-- a byte that is no digit
pub numeral_after-other : (base value c digit : ℕ) (cs : List ℕ) → digit ≡ digit_value c → base ≤ digit → numeral_after base value (c ∷ cs) ≡ None
unfolding numeral_after
numeral_after-other base value c digit cs is high =
    let P : ℕ → Type 0 = λ n. base ≤ n in
    ap (λ b. cond ((b && list_all (λ c. is_digit c base) cs) && ltb (digits_value_after base value (c ∷ cs)) (2 ^ 64)) (Some (digits_value_after base value (c ∷ cs))) None) (le-ltb (digit_value c) base (subst P is high))

no_value : (b : Bool) (n : ℕ) → cond (b && false) (Some n) None ≡ None
no_value true n = refl
no_value false n = refl

-- a digit makes the value one that is too large
pub numeral_after-large : (base value c digit : ℕ) (cs : List ℕ) → digit ≡ digit_value c → 0 < base → (value * base + digit < 2 ^ 64 → ⊥) → numeral_after base value (c ∷ cs) ≡ None
unfolding numeral_after
numeral_after-large base value c digit cs is some large =
    let more : value * base + digit_value c ≤ digits_value_after base value (c ∷ cs) = grows base (value * base + digit_value c) cs some in
    let P : ℕ → Type 0 = λ n. value * base + n ≤ digits_value_after base value (c ∷ cs) in
    let here : value * base + digit ≤ digits_value_after base value (c ∷ cs) = subst P (sym is) more in
    let over : 2 ^ 64 ≤ digits_value_after base value (c ∷ cs) = too_large (value * base + digit) (digits_value_after base value (c ∷ cs)) here large in
    ap (λ b. cond (list_all (λ c. is_digit c base) (c ∷ cs) && b) (Some (digits_value_after base value (c ∷ cs))) None) (le-ltb (digits_value_after base value (c ∷ cs)) (2 ^ 64) over)
    ∙ no_value (list_all (λ c. is_digit c base) (c ∷ cs)) (digits_value_after base value (c ∷ cs)) where
      too_large : (m n : ℕ) → m ≤ n → (m < 2 ^ 64 → ⊥) → 2 ^ 64 ≤ n
      too_large m n le none = omega arith

-- a digit more
pub numeral_after-digit : (base value c digit new : ℕ) (cs : List ℕ) → digit ≡ digit_value c → digit < base → new ≡ value * base + digit → numeral_after base new cs ≡ numeral_after base value (c ∷ cs)
unfolding numeral_after
numeral_after-digit base value c digit new cs is low sum =
    let P : ℕ → Type 0 = λ n. n < base in
    let same : new ≡ value * base + digit_value c = sum ∙ ap (λ n. value * base + n) is in
    ap (λ n. numeral_after base n cs) same
    ∙ sym (ap (λ b. cond ((b && list_all (λ c. is_digit c base) cs) && ltb (digits_value_after base value (c ∷ cs)) (2 ^ 64)) (Some (digits_value_after base value (c ∷ cs))) None) (lt-ltb (digit_value c) base (subst P is low)))

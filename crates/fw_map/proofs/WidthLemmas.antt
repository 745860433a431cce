-- How wide accesses are.
use Rattle.std.proofs.Common.{◌≡◌, ◌≤◌, ◌/◌, ◌^◌, ◌⊎◌, ◌==◌, ℕ, max, Bool, true, false, cond, leb, refl, sym, subst, arith, ⊎_elim, inl, inr}
use Rattle.apei_base.specs.Region.{access_width, coded_width, smallest_width, bits_needed, is_whole}
use Rattle.apei_base.specs.declared.gas.Gas.{Gas}

-- 8, 16, 32 or 64 bits
abbrev pub IsOneOf : ℕ → Type 0
IsOneOf w = (w ≡ 8) ⊎ ((w ≡ 16) ⊎ ((w ≡ 32) ⊎ (w ≡ 64)))

of_8 : IsOneOf 8
of_8 = inl refl

of_16 : IsOneOf 16
of_16 = inr (inl refl)

of_32 : IsOneOf 32
of_32 = inr (inr (inl refl))

of_64 : IsOneOf 64
of_64 = inr (inr (inr refl))

pick : (b : Bool) (x y : ℕ) → IsOneOf x → IsOneOf y → IsOneOf (cond b x y)
pick true x y one other = one
pick false x y one other = other

-- the wider of one and 32 bits
at_least_32 : (w : ℕ) → IsOneOf w → IsOneOf (max 32 w)
at_least_32 w is =
    ⊎_elim (λ e. subst (λ v. IsOneOf (max 32 v)) (sym e) of_32)
    (λ other. ⊎_elim (λ e. subst (λ v. IsOneOf (max 32 v)) (sym e) of_32)
    (λ third. ⊎_elim (λ e. subst (λ v. IsOneOf (max 32 v)) (sym e) of_32) (λ e. subst (λ v. IsOneOf (max 32 v)) (sym e) of_64) third) other) is

smallest_is : (bits : ℕ) → IsOneOf (smallest_width bits)
smallest_is bits =
    pick (leb bits 8) 8 _ of_8 (pick (leb bits 16) 16 _ of_16 (pick (leb bits 32) 32 64 of_32 of_64))

coded_is : (gas : Gas) → IsOneOf (coded_width gas)
coded_is gas =
    pick (gas.access == 0) (smallest_width (bits_needed gas)) _ (smallest_is (bits_needed gas))
    (pick (gas.access == 1) 8 _ of_8 (pick (gas.access == 2) 16 _ of_16 (pick (gas.access == 3) 32 64 of_32 of_64)))

access_is : (gas : Gas) → IsOneOf (access_width gas)
access_is gas =
    pick (is_whole gas 64) 64 _ of_64
    (pick (is_whole gas 32) (max 32 (coded_width gas)) (coded_width gas) (at_least_32 (coded_width gas) (coded_is gas)) (coded_is gas))

-- an access has a byte at least, and its numbers are below 2 ^ 64
bounds_of : (w : ℕ) → IsOneOf w → (1 ≤ w / 8) × (2 ^ w ≤ 2 ^ 64)
bounds_of w is =
    ⊎_elim (λ e. subst (λ v. (1 ≤ v / 8) × (2 ^ v ≤ 2 ^ 64)) (sym e) (omega arith, omega arith))
    (λ other. ⊎_elim (λ e. subst (λ v. (1 ≤ v / 8) × (2 ^ v ≤ 2 ^ 64)) (sym e) (omega arith, omega arith))
    (λ third. ⊎_elim (λ e. subst (λ v. (1 ≤ v / 8) × (2 ^ v ≤ 2 ^ 64)) (sym e) (omega arith, omega arith))
    (λ e. subst (λ v. (1 ≤ v / 8) × (2 ^ v ≤ 2 ^ 64)) (sym e) (omega arith, omega arith)) third) other) is

pub access_bounds : (gas : Gas) → (1 ≤ access_width gas / 8) × (2 ^ access_width gas ≤ 2 ^ 64)
access_bounds gas = bounds_of (access_width gas) (access_is gas)

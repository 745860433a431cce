-- The block that stands, and the area where none does.
use Rattle.std.proofs.Common.{◌≡◌, ℕ, zero, suc, ◌+◌, ◌-◌, Bool, true, false, if◌then◌else◌, List, [], ◌∷◌, take, replicate, Some, None, arith, ap, subst, ◌∙◌, unwrap_or}
use Rattle.std.specs.List.{AllByRecursion, slice_get}
use Rattle.std.proofs.lemmas.List.{drop-replicate, take-replicate}
use Rattle.apei_base.specs.Firmware.{Seen, standing, area_bytes, shown, IsRaised, IsSound}

-- what holds of each element holds of one that is there
all_at : {X : Type 0} (P : X → Type 0) (xs : List X) (i : ℕ) (x : X) → AllByRecursion P xs → slice_get xs i ≡ Some x → P x
all_at P [] i x all there = absurd (cc there)
all_at P (y ∷ ys) zero x all there = let same : y ≡ x = cc in subst P same all.0
all_at P (y ∷ ys) (suc i) x all there = all_at P ys i x all.1 there

raised_at : (waits : Bool) (made : List (List ℕ)) (i : ℕ) (block : List ℕ) → AllByRecursion IsRaised made → (if waits then None else slice_get made i) ≡ Some block → IsRaised block
raised_at true made i block all there = absurd (cc there)
raised_at false made i block all there = all_at IsRaised made i block all there

-- a block that stands was raised
pub standing_raised : (seen : Seen) (faults : ℕ) (block : List ℕ) → IsSound seen faults → standing seen ≡ Some block → IsRaised block
standing_raised seen faults block sound stands = raised_at seen.waits seen.made seen.acknowledged block sound.raised stands

-- what is shown of no bytes
shown-nil : (skip n : ℕ) → shown skip n [] ≡ replicate n 0
shown-nil skip n = ap (take n) (drop-replicate skip (skip + n) 0) ∙ take-replicate n ((skip + n) - skip) 0 (omega arith)

-- where no block stands the area is zeros
pub area_zeros : (seen : Seen) (skip n : ℕ) → standing seen ≡ None → area_bytes skip n seen ≡ replicate n 0
area_zeros seen skip n none = ap (λ block. shown skip n (unwrap_or block [])) none ∙ shown-nil skip n

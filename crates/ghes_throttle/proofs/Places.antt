-- The place that a report takes is one of the places.
use Rattle.std.proofs.Common.{◌≡◌, ◌≢◌, ℕ, ◌<◌, ◌-◌, ◌%◌, ◌&&◌, nat_eq, nat_le, nat_lt, Bool, true, false, List, [], ◌∷◌, length, sum, arith, suc, refl, ap, Option, Some, None, option_map, unwrap_or, IfSome, if◌then◌else◌}
use Rattle.std.proofs.lemmas.Bool.{false_from_ne_true}
use Rattle.std.proofs.lemmas.Bool.Decides.{Decides-eqb}
use Rattle.std.proofs.lemmas.Slice.Eq.{slice_eq-Decides}
use lib.Pointwise.{pointwise}
use Rattle.ghes_throttle.specs.Cache.{PlaceState, first_at, place_for, is_empty, is_over, is_least, hits, window, sample_of}

-- a number that is one more is below a length that is one more
one_more : (o : Option ℕ) (n : ℕ) → IfSome o (λ i. i < n) → IfSome (option_map suc o) (λ i. i < suc n)
one_more None n h = tt
one_more (Some i) n h = omega arith

one_of : (b : Bool) (o : Option ℕ) (n : ℕ) → IfSome o (λ i. i < n) → IfSome (if b then Some 0 else option_map suc o) (λ i. i < suc n)
one_of true o n h = omega arith
one_of false o n h = one_more o n h

-- a place that is found is one of the places
pub first_at_below : (test : PlaceState → Bool) (places : List PlaceState) → IfSome (first_at test places) (λ i. i < length places)
unfolding first_at
first_at_below test [] = tt
first_at_below test (p ∷ places) = one_of (test p) (first_at test places) (length places) (first_at_below test places)

or_else : (o : Option ℕ) (d n : ℕ) → IfSome o (λ i. i < n) → d < n → unwrap_or o d < n
or_else None d n h lt = lt
or_else (Some i) d n h lt = h

pub place_for_below : (places : List PlaceState) (now : ℕ) → 0 < length places → place_for places now < length places
unfolding place_for
place_for_below places now some =
    or_else _ _ _ (first_at_below is_empty places)
    (or_else _ _ _ (first_at_below (is_over now) places) (or_else _ _ _ (first_at_below (is_least places) places) some))

other_bytes : (full early late same : Bool) → same ≡ false → (full && (early && (late && same))) ≡ false
other_bytes true true true same h = h
other_bytes true true false same h = refl
other_bytes true false late same h = refl
other_bytes false early late same h = refl

-- a place whose bytes have another sample does not hit
pub other_sample : (p : PlaceState) (bytes : List ℕ) (now : ℕ) → sample_of p.bytes ≢ sample_of bytes → hits bytes now p ≡ false
other_sample p bytes now other =
    other_bytes p.full (nat_le p.time now) (nat_lt (now - p.time) window) (pointwise nat_eq p.bytes bytes)
    (false_from_ne_true _ (λ e. other (ap sample_of ((slice_eq-Decides Decides-eqb p.bytes bytes _ refl).0 e))))

-- a place whose bytes add up to something else does not hit
pub other_sum : (p : PlaceState) (bytes : List ℕ) (now : ℕ) → sum p.bytes % 256 ≢ sum bytes % 256 → hits bytes now p ≡ false
other_sum p bytes now other =
    other_bytes p.full (nat_le p.time now) (nat_lt (now - p.time) window) (pointwise nat_eq p.bytes bytes)
    (false_from_ne_true _ (λ e. other (ap (λ l. sum l % 256) ((slice_eq-Decides Decides-eqb p.bytes bytes _ refl).0 e))))

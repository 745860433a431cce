-- The places after one report more.
use Rattle.std.proofs.Common.{◌≡◌, ℕ, ◌+◌, List, [], ◌∷◌, ◌++◌, length, refl, ap, ◌∙◌, arith}
use Rattle.std.proofs.Math.ListN.{length-set}
use Rattle.ghes_throttle.specs.declared.report.Report.{Report}
use Rattle.ghes_throttle.specs.Cache.{PlaceState, with_put, empty_places}
use Rattle.ghes_throttle.specs.Reports.{places_after, cache_of}

-- the places after a list and one report
pub places_last : (n : ℕ) (places : List PlaceState) (list : List Report) (r : Report)
    → places_after n places (list ++ r ∷ []) ≡ with_put (places_after n places list) r.bytes r.time (n + length list + 1)
unfolding places_after
places_last n places [] r = ap (λ k. with_put places r.bytes r.time k) (omega arith)
places_last n places (q ∷ list) r = places_last (n + 1) (with_put places q.bytes q.time (n + 1)) list r ∙ ap (λ k. with_put (places_after (n + 1) (with_put places q.bytes q.time (n + 1)) list) r.bytes r.time k) (omega arith)

pub cache_last : (list : List Report) (r : Report) → cache_of (list ++ r ∷ []) ≡ with_put (cache_of list) r.bytes r.time (length list + 1)
cache_last list r = places_last 0 empty_places list r ∙ ap (λ k. with_put (cache_of list) r.bytes r.time k) (omega arith)

pub empty_cache : cache_of [] ≡ empty_places
unfolding places_after
empty_cache = refl

-- a put keeps the number of places
length-with_put : (places : List PlaceState) (bytes : List ℕ) (time number : ℕ) → length (with_put places bytes time number) ≡ length places
unfolding with_put
length-with_put places bytes time number = simp length-set

pub length-places_after : (n : ℕ) (places : List PlaceState) (list : List Report) → length (places_after n places list) ≡ length places
unfolding places_after
length-places_after n places [] = refl
length-places_after n places (r ∷ list) = length-places_after (n + 1) (with_put places r.bytes r.time (n + 1)) list ∙ length-with_put places r.bytes r.time (n + 1)

pub length-cache_of : (list : List Report) → length (cache_of list) ≡ 4
length-cache_of list = length-places_after 0 empty_places list

-- No two ranks of the order of the calls have one place.
use Rattle.std.proofs.Common.{◌≡◌, ◌<◌, ℕ, zero, suc, ◌+◌, List, [], ◌∷◌, ◌++◌, take, drop, sym, arith}
use Rattle.std.specs.List.{AllByRecursion}
use Rattle.ghes_notify.specs.declared.order.Tag.{Tag}
use Rattle.ghes_notify.specs.declared.order.Rank.{Rank}
use Rattle.ghes_notify.specs.Order.{rank_of, seat_of, ranked, order_after, call_order}

-- none of these ranks has this place
abbrev pub IsAbsent : ℕ → List Rank → Type 0
IsAbsent place ranks = AllByRecursion (λ (r : Rank). r.place ≡ place → ⊥) ranks

-- no two of these ranks have one place
abbrev pub AreApart : List Rank → Type 0
AreApart [] = Unit {0}
AreApart (r ∷ ranks) = IsAbsent r.place ranks × AreApart ranks

-- all of these ranks have a place below this one
abbrev AreUnder : ℕ → List Rank → Type 0
AreUnder place ranks = AllByRecursion (λ (r : Rank). r.place < place) ranks

insert_absent : (place i : ℕ) (ranks : List Rank) (r : Rank) → IsAbsent place ranks → (r.place ≡ place → ⊥)
    → IsAbsent place (take i ranks ++ r ∷ drop i ranks)
insert_absent place zero ranks r absent other = (other, absent)
insert_absent place (suc i) [] r absent other = (other, tt)
insert_absent place (suc i) (q ∷ ranks) r absent other = (absent.0, insert_absent place i ranks r absent.1 other)

insert_apart : (i : ℕ) (ranks : List Rank) (r : Rank) → AreApart ranks → IsAbsent r.place ranks
    → AreApart (take i ranks ++ r ∷ drop i ranks)
insert_apart zero ranks r apart absent = (absent, apart)
insert_apart (suc i) [] r apart absent = (tt, tt)
insert_apart (suc i) (q ∷ ranks) r apart absent =
    (insert_absent q.place i ranks r apart.0 (λ e. absent.0 (sym e)), insert_apart i ranks r apart.1 absent.1)

insert_under : (place i : ℕ) (ranks : List Rank) (r : Rank) → AreUnder place ranks → r.place < place
    → AreUnder place (take i ranks ++ r ∷ drop i ranks)
insert_under place zero ranks r under less = (less, under)
insert_under place (suc i) [] r under less = (less, tt)
insert_under place (suc i) (q ∷ ranks) r under less = (under.0, insert_under place i ranks r under.1 less)

under_more : (place : ℕ) (ranks : List Rank) → AreUnder place ranks → AreUnder (place + 1) ranks
under_more place [] under = tt
under_more place (r ∷ ranks) under = (omega (arith, under.0), under_more place ranks under.1)

under_absent : (place : ℕ) (ranks : List Rank) → AreUnder place ranks → IsAbsent place ranks
under_absent place [] under = tt
under_absent place (r ∷ ranks) under = ((λ e. omega (arith, under.0, e)), under_absent place ranks under.1)

order_apart : (place : ℕ) (ranks : List Rank) (tags : List Tag) → AreApart ranks → AreUnder place ranks
    → AreApart (order_after place ranks tags)
unfolding order_after
order_apart place ranks [] apart under = apart
order_apart place ranks (t ∷ tags) apart under =
    let r = rank_of t place in
    let i = seat_of ranks r in
    order_apart (place + 1) (ranked ranks r) tags (insert_apart i ranks r apart (under_absent place ranks under))
    (insert_under (place + 1) i ranks r (under_more place ranks under) (omega arith))

pub call_order_apart : (tags : List Tag) → AreApart (call_order tags)
call_order_apart tags = order_apart 0 [] tags tt tt

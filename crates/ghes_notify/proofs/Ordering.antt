-- The order of the calls, as handlers come and go.
use Rattle.std.proofs.Common.{◌≡◌, ℕ, ◌+◌, ◌<◌, ◌≤◌, List, [], ◌∷◌, ◌++◌, length, take, drop, suc, refl, ap, sym, ◌∙◌, arith}
use Rattle.std.specs.Prelude.{All, insert, remove}
use Rattle.std.proofs.lemmas.List.Elements.{All-nil, All-append, All-cons, All-take, All-drop, All-weaker, All-push}
use Rattle.ghes_notify.specs.declared.order.Tag.{Tag}
use Rattle.ghes_notify.specs.declared.order.Rank.{Rank}
use Rattle.ghes_notify.specs.Order.{rank_of, seat_of, ranked, order_after, call_order, AreBelow}
use Rattle.ghes_notify.specs.Delivery.{IsWithin}

-- the order with one handler more
pub order_last : (place : ℕ) (order : List Rank) (tags : List Tag) (t : Tag) → order_after place order (tags ++ t ∷ []) ≡ ranked (order_after place order tags) (rank_of t (place + length tags))
unfolding order_after
order_last place order [] t = ap (λ p. ranked order (rank_of t p)) (omega arith)
order_last place order (u ∷ tags) t = order_last (place + 1) (ranked order (rank_of u place)) tags t ∙ ap (λ p. ranked (order_after (place + 1) (ranked order (rank_of u place)) tags) (rank_of t p)) (omega arith)

pub call_order_last : (tags : List Tag) (t : Tag) → call_order (tags ++ t ∷ []) ≡ ranked (call_order tags) (rank_of t (length tags))
call_order_last tags t = order_last 0 [] tags t ∙ ap (λ p. ranked (call_order tags) (rank_of t p)) (omega arith)

-- one step of the order
pub order_next : (place : ℕ) (order : List Rank) (t : Tag) (tags : List Tag) → order_after place order (t ∷ tags) ≡ order_after (place + 1) (ranked order (rank_of t place)) tags
unfolding order_after
order_next place order t tags = refl

-- its end
pub order_end : (place : ℕ) (order : List Rank) (tags : List Tag) → length tags ≡ 0 → order_after place order tags ≡ order
unfolding order_after
order_end place order [] none = refl
order_end place order (t ∷ tags) none = absurd (omega arith)

-- no handler, no order
pub call_order_nil : call_order [] ≡ []
unfolding order_after
call_order_nil = refl

-- what holds of a rank and of an order holds of the order with the rank
ranked_within : (n : ℕ) (order : List Rank) (r : Rank) → IsWithin n order → r.place < n → IsWithin n (ranked order r)
ranked_within n order r within lt =
    let P : Rank → Type 0 = λ q. q.place < n in
    let i = seat_of order r in
    All-append P (take i order) (r ∷ drop i order) (All-take P i order within) (All-cons P r (drop i order) lt (All-drop P i order within))

pub order_within : (n place : ℕ) (order : List Rank) (tags : List Tag) → IsWithin n order → place + length tags ≤ n → IsWithin n (order_after place order tags)
unfolding order_after
order_within n place order [] within fits = within
order_within n place order (t ∷ tags) within fits =
    order_within n (place + 1) (ranked order (rank_of t place)) tags (ranked_within n order (rank_of t place) within (omega arith)) (omega arith)

-- each rank of the order names one of the handlers
pub call_order_within : (tags : List Tag) → IsWithin (length tags) (call_order tags)
call_order_within tags = order_within (length tags) 0 [] tags (All-nil (λ (q : Rank). q.place < length tags)) (omega arith)

-- a number that was not given stays above those that were
pub below_push : (made : ℕ) (tags : List Tag) (t : Tag) → AreBelow made tags → t.id ≡ made → AreBelow (made + 1) (tags ++ t ∷ [])
below_push made tags t below is =
    All-push (λ (u : Tag). u.id < made + 1) tags t (All-weaker (λ (u : Tag). u.id < made) (λ (u : Tag). u.id < made + 1) (λ u lt. omega arith) tags below) (omega arith)

pub below_remove : (made place : ℕ) (tags : List Tag) → AreBelow made tags → AreBelow made (remove tags place)
below_remove made place tags below =
    let P : Tag → Type 0 = λ u. u.id < made in
    All-append P (take place tags) (drop (suc place) tags) (All-take P place tags below) (All-drop P (suc place) tags below)

-- The order of the calls falls by priority, and equals stand in it as they were registered.
use Rattle.std.proofs.Common.{◌≡◌, ℕ, ◌+◌, ◌<◌, ◌≤◌, Bool, true, false, not, ◌&&◌, ◌||◌, cond, List, [], ◌∷◌, ◌++◌, length, take, drop, refl, ap, sym, ◌∙◌, subst, arith, Some, None, unwrap_or, nat_lt, one-add}
use Rattle.std.specs.Prelude.{insert, position, int_lt, ℤ}
use Rattle.std.specs.List.{list_all, position_or_len, prefix_len}
use Rattle.std.proofs.lemmas.List.Sums.{prefix_len-le-length}
use Rattle.std.proofs.lemmas.Bool.Decides.{nat_tests}
use Rattle.std.proofs.lemmas.Int.{ints}
use Rattle.ghes_notify.specs.declared.order.Tag.{Tag}
use Rattle.ghes_notify.specs.declared.order.Rank.{Rank}
use Rattle.ghes_notify.specs.Order.{rank_of, seat_of, ranked, order_after, call_order, is_before, is_in_order}

-- where a rank goes, found along the order
abbrev placed : List Rank → Rank → List Rank
placed [] r = r ∷ []
placed (o ∷ os) r = cond (int_lt o.tag.priority r.tag.priority) (r ∷ o ∷ os) (o ∷ placed os r)

step : (b : Bool) (o r : Rank) (os : List Rank) (k : ℕ) → insert (o ∷ os) (cond (not b) (1 + k) 0) r ≡ cond b (r ∷ o ∷ os) (o ∷ insert os k r)
step true o r os k = refl
step false o r os k = rw one-add refl

insert_is : (os : List Rank) (r : Rank) → insert os (position_or_len (λ o. int_lt o.tag.priority r.tag.priority) os) r ≡ placed os r
insert_is [] r = refl
insert_is (o ∷ os) r =
    let b = int_lt o.tag.priority r.tag.priority in
    step b o r os (position_or_len (λ q. int_lt q.tag.priority r.tag.priority) os) ∙ ap (λ (t : List Rank). cond b (r ∷ o ∷ os) (o ∷ t)) (insert_is os r)

seat_by : (b : Bool) (k n : ℕ) → nat_lt k n ≡ b → k ≤ n → unwrap_or (cond b (Some k) None) n ≡ k
seat_by true k n is le = refl
seat_by false k n is le = grind (arith, nat_tests)

ranked_is : (os : List Rank) (r : Rank) → ranked os r ≡ placed os r
ranked_is os r =
    let lower : Rank → Bool = λ o. int_lt o.tag.priority r.tag.priority in
    ap (λ (k : ℕ). insert os k r) (seat_by (nat_lt (position_or_len lower os) (length os)) (position_or_len lower os) (length os) refl (prefix_len-le-length (λ o. not (lower o)) os)) ∙ insert_is os r

-- both of two tests hold
both : (a b : Bool) → a ≡ true → b ≡ true → (a && b) ≡ true
both a b p q = rw (p, q) refl

first : (a b : Bool) → (a && b) ≡ true → a ≡ true
first true b h = refl
first false b h = absurd (cc)

second : (a b : Bool) → (a && b) ≡ true → b ≡ true
second true b h = h
second false b h = absurd (cc)

or_left : (a b : Bool) → a ≡ true → (a || b) ≡ true
or_left a b p = rw p refl

or_right : (a b : Bool) → b ≡ true → (a || b) ≡ true
or_right true b p = refl
or_right false b p = p

-- what is called before a rank of a lower priority is called before all behind it
lower_lt : (a b c : ℤ) → int_lt b a ≡ true → int_lt b c ≡ false → int_lt c a ≡ true
lower_lt a b c p q = grind (arith, ints)

lower_lt' : (a b c : ℤ) → int_lt b a ≡ true → int_lt c b ≡ true → int_lt c a ≡ true
lower_lt' a b c p q = grind (arith, ints)

not_true : (b : Bool) → not b ≡ true → b ≡ false
not_true true h = absurd (cc)
not_true false h = refl

before_by : (b : Bool) (r o x : Rank) → int_lt x.tag.priority o.tag.priority ≡ b → int_lt o.tag.priority r.tag.priority ≡ true → is_before o x ≡ true → int_lt x.tag.priority r.tag.priority ≡ true
before_by true r o x is lower before = lower_lt' r.tag.priority o.tag.priority x.tag.priority lower is
before_by false r o x is lower before =
    let rest : (not (int_lt o.tag.priority x.tag.priority) && nat_lt o.place x.place) ≡ true = subst (λ (b : Bool). (b || (not (int_lt o.tag.priority x.tag.priority) && nat_lt o.place x.place)) ≡ true) is before in
    lower_lt r.tag.priority o.tag.priority x.tag.priority lower (not_true (int_lt o.tag.priority x.tag.priority) (first (not (int_lt o.tag.priority x.tag.priority)) (nat_lt o.place x.place) rest))

before_all : (r o : Rank) (os : List Rank) → int_lt o.tag.priority r.tag.priority ≡ true → list_all (is_before o) os ≡ true → list_all (is_before r) os ≡ true
before_all r o [] lower all = refl
before_all r o (x ∷ os) lower all =
    both (is_before r x) (list_all (is_before r) os)
    (or_left (int_lt x.tag.priority r.tag.priority) (not (int_lt r.tag.priority x.tag.priority) && nat_lt r.place x.place) (before_by (int_lt x.tag.priority o.tag.priority) r o x refl lower (first (is_before o x) (list_all (is_before o) os) all)))
    (before_all r o os lower (second (is_before o x) (list_all (is_before o) os) all))

all_by : (b : Bool) (p : Rank → Bool) (o r : Rank) (os rest : List Rank) → list_all p (o ∷ os) ≡ true → p r ≡ true → list_all p rest ≡ true → list_all p (cond b (r ∷ o ∷ os) (o ∷ rest)) ≡ true
all_by true p o r os rest all here there = both (p r) (list_all p (o ∷ os)) here all
all_by false p o r os rest all here there = both (p o) (list_all p rest) (first (p o) (list_all p os) all) there

-- what holds of a rank and of an order holds of the order with the rank
placed_all : (p : Rank → Bool) (os : List Rank) (r : Rank) → list_all p os ≡ true → p r ≡ true → list_all p (placed os r) ≡ true
placed_all p [] r all here = both (p r) true here refl
placed_all p (o ∷ os) r all here = all_by (int_lt o.tag.priority r.tag.priority) p o r os (placed os r) all here (placed_all p os r (second (p o) (list_all p os) all) here)

placed_case : (b : Bool) (o r : Rank) (os : List Rank) → int_lt o.tag.priority r.tag.priority ≡ b → is_in_order (o ∷ os) ≡ true → nat_lt o.place r.place ≡ true
    → is_in_order (placed os r) ≡ true → is_in_order (cond b (r ∷ o ∷ os) (o ∷ placed os r)) ≡ true
placed_case true o r os is ordered earlier behind =
    both (list_all (is_before r) (o ∷ os)) (is_in_order (o ∷ os))
    (both (is_before r o) (list_all (is_before r) os)
    (or_left (int_lt o.tag.priority r.tag.priority) (not (int_lt r.tag.priority o.tag.priority) && nat_lt r.place o.place) is)
    (before_all r o os is (first (list_all (is_before o) os) (is_in_order os) ordered)))
    ordered
placed_case false o r os is ordered earlier behind =
    both (list_all (is_before o) (placed os r)) (is_in_order (placed os r))
    (placed_all (is_before o) os r (first (list_all (is_before o) os) (is_in_order os) ordered)
    (or_right (int_lt r.tag.priority o.tag.priority) (not (int_lt o.tag.priority r.tag.priority) && nat_lt o.place r.place)
    (both (not (int_lt o.tag.priority r.tag.priority)) (nat_lt o.place r.place) (ap not is) earlier)))
    behind

-- a rank that was registered last keeps the order
placed_in_order : (os : List Rank) (r : Rank) → is_in_order os ≡ true → list_all (λ o. nat_lt o.place r.place) os ≡ true → is_in_order (placed os r) ≡ true
placed_in_order [] r ordered earlier = refl
placed_in_order (o ∷ os) r ordered earlier =
    let here = first (nat_lt o.place r.place) (list_all (λ q. nat_lt q.place r.place) os) earlier in
    let rest = second (nat_lt o.place r.place) (list_all (λ q. nat_lt q.place r.place) os) earlier in
    placed_case (int_lt o.tag.priority r.tag.priority) o r os refl ordered here (placed_in_order os r (second (list_all (is_before o) os) (is_in_order os) ordered) rest)

place_below : (place : ℕ) (o : Rank) → nat_lt o.place place ≡ true → nat_lt o.place (place + 1) ≡ true
place_below place o below = grind (arith, nat_tests)

next_below : (place : ℕ) → nat_lt place (place + 1) ≡ true
next_below place = grind (arith, nat_tests)

-- places below one number are below the next
places_below : (place : ℕ) (os : List Rank) → list_all (λ o. nat_lt o.place place) os ≡ true → list_all (λ o. nat_lt o.place (place + 1)) os ≡ true
places_below place [] below = refl
places_below place (o ∷ os) below =
    both (nat_lt o.place (place + 1)) (list_all (λ q. nat_lt q.place (place + 1)) os)
    (place_below place o (first (nat_lt o.place place) (list_all (λ q. nat_lt q.place place) os) below))
    (places_below place os (second (nat_lt o.place place) (list_all (λ q. nat_lt q.place place) os) below))

pub order_in_order : (place : ℕ) (order : List Rank) (tags : List Tag) → is_in_order order ≡ true → list_all (λ o. nat_lt o.place place) order ≡ true → is_in_order (order_after place order tags) ≡ true
unfolding order_after
order_in_order place order [] ordered below = ordered
order_in_order place order (t ∷ tags) ordered below =
    let r = rank_of t place in
    let is = sym (ranked_is order r) in
    order_in_order (place + 1) (ranked order r) tags
    (subst (λ (os : List Rank). is_in_order os ≡ true) is (placed_in_order order r ordered below))
    (subst (λ (os : List Rank). list_all (λ (o : Rank). nat_lt o.place (place + 1)) os ≡ true) is
    (placed_all (λ o. nat_lt o.place (place + 1)) order r (places_below place order below) (next_below place)))

-- each handler is called before all that stand behind it
pub call_order_in_order : (tags : List Tag) → is_in_order (call_order tags) ≡ true
call_order_in_order tags = order_in_order 0 [] tags refl refl

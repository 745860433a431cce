-- What the report cache answers is what the laws of a ledger say of a look in four places.
use Rattle.std.proofs.Common.{◌≡◌, ◌≤◌, ℕ, zero, suc, ◌+◌, ◌-◌, Bool, true, false, cond, leb, ltb, ◌&&◌, List, [], ◌∷◌, map, set, replicate, refl, sym, ap, ◌∙◌, arith, Option, Some, None, option_map, unwrap_or}
use Rattle.std.specs.Prelude.{slice_set, bytes_eq}
use Rattle.std.specs.List.{AllByRecursion}
use Rattle.std.proofs.lemmas.Bool.{ltb-true, ltb-false}
use Rattle.ghes_ledger.specs.declared.ledger.Report.{Report}
use Rattle.ghes_ledger.specs.Reports.{Place}
use Rattle.ghes_ledger.specs.Reports as law
use Rattle.ghes_throttle.specs.Cache.{CacheState, PlaceState, empty_place, place_with, is_least, first_at}
use Rattle.ghes_throttle.specs.Cache as kept
use Rattle.ghes_throttle.specs.Reports.{places_after, hit}
use Rattle.ghes_desk.specs.Cache.{puts_of, Caches}

-- a place of the laws, as the cache has it
abbrev state_of : Option Place → PlaceState
state_of None = empty_place
state_of (Some p) = place_with p.bytes p.time p.number

abbrev states : List (Option Place) → List PlaceState
states places = map state_of places

-- Which place hits

last_first : (x y z : Bool) → (x && (y && z)) ≡ (z && (x && y))
last_first true true true = refl
last_first true true false = refl
last_first true false true = refl
last_first true false false = refl
last_first false y true = refl
last_first false y false = refl

hits_is : (bytes : List ℕ) (now : ℕ) (p : Place) → kept.hits bytes now (state_of (Some p)) ≡ law.place_hits bytes now (Some p)
hits_is bytes now p = last_first (leb p.time now) (ltb (now - p.time) law.window) (bytes_eq p.bytes bytes)

hit_in_is : (bytes : List ℕ) (now : ℕ) (places : List (Option Place)) → kept.hit_of (states places) bytes now ≡ law.hit_in places bytes now
unfolding kept.hit_of
hit_in_is bytes now [] = refl
hit_in_is bytes now (None ∷ places) = hit_in_is bytes now places
hit_in_is bytes now (Some p ∷ places) =
    ap (λ b. cond b (Some p.number) (kept.hit_of (states places) bytes now)) (hits_is bytes now p)
    ∙ ap (λ found. cond (law.place_hits bytes now (Some p)) (Some p.number) found) (hit_in_is bytes now places)

-- The lowest place that passes a test

counted : (b : Bool) (i : ℕ) (found : Option ℕ) → cond b (Some i) (option_map (λ k. (i + 1) + k) found) ≡ option_map (λ k. i + k) (cond b (Some 0) (option_map suc found))
counted true i found = ap Some (omega arith)
counted false i None = refl
counted false i (Some k) = ap Some (omega arith)

lowest_from : (test : Option Place → Bool) (test' : PlaceState → Bool) (i : ℕ) (places : List (Option Place)) → AllByRecursion (λ p. test p ≡ test' (state_of p)) places → law.lowest test i places ≡ option_map (λ k. i + k) (first_at test' (states places))
unfolding first_at
lowest_from test test' i [] same = refl
lowest_from test test' i (p ∷ places) same =
    ap (λ b. cond b (Some i) (law.lowest test (i + 1) places)) same.0
    ∙ ap (λ found. cond (test' (state_of p)) (Some i) found) (lowest_from test test' (i + 1) places same.1)
    ∙ counted (test' (state_of p)) i (first_at test' (states places))

from_zero : (found : Option ℕ) → option_map (λ k. 0 + k) found ≡ found
from_zero None = refl
from_zero (Some k) = ap Some (omega arith)

lowest_is : (test : Option Place → Bool) (test' : PlaceState → Bool) (places : List (Option Place)) → AllByRecursion (λ p. test p ≡ test' (state_of p)) places → law.lowest test 0 places ≡ first_at test' (states places)
lowest_is test test' places same = lowest_from test test' 0 places same ∙ from_zero (first_at test' (states places))

empty_same : (places : List (Option Place)) → AllByRecursion (λ p. law.is_empty p ≡ kept.is_empty (state_of p)) places
empty_same [] = tt
empty_same (None ∷ places) = (refl, empty_same places)
empty_same (Some p ∷ places) = (refl, empty_same places)

-- where no place is empty, a place has run out where its window is over
over_same : (now i : ℕ) (places : List (Option Place)) → law.lowest law.is_empty i places ≡ None → AllByRecursion (λ p. law.has_run_out now p ≡ kept.is_over now (state_of p)) places
over_same now i [] full = tt
over_same now i (None ∷ places) full = absurd cc
over_same now i (Some p ∷ places) full = (refl, over_same now (i + 1) places full)

-- The lowest of the places with the least time

first_same : (f g : PlaceState → Bool) (ps : List PlaceState) → ((p : PlaceState) → f p ≡ g p) → first_at f ps ≡ first_at g ps
unfolding first_at
first_same f g [] same = refl
first_same f g (p ∷ ps) same =
    ap (λ b. cond b (Some 0) (option_map suc (first_at f ps))) (same p)
    ∙ ap (λ found. cond (g p) (Some 0) (option_map suc found)) (first_same f g ps same)

not_less : (n : ℕ) → ltb n n ≡ false
not_less n = by_case (ltb n n) refl where
  by_case : (b : Bool) → ltb n n ≡ b → ltb n n ≡ false
  by_case true e = absurd (omega (arith, ltb-true n n e))
  by_case false e = e

-- what is least is least at an earlier time
least_below : (ps : List PlaceState) (p q : PlaceState) → is_least ps p ≡ true → q.time ≤ p.time → is_least ps q ≡ true
unfolding is_least
least_below [] p q least below = refl
least_below (r ∷ ps) p q least below = by_case (ltb r.time p.time) (ltb r.time q.time) refl refl (λ rest. least_below ps p q rest below) least where
  by_case : (b d : Bool) → ltb r.time p.time ≡ b → ltb r.time q.time ≡ d → (is_least ps p ≡ true → is_least ps q ≡ true) → cond b false (is_least ps p) ≡ true → cond d false (is_least ps q) ≡ true
  by_case true d e h rest least = absurd cc
  by_case false true e h rest least = absurd (omega (arith, ltb-false r.time p.time e, ltb-true r.time q.time h))
  by_case false false e h rest least = rest least

not_true : (b : Bool) → b ≡ false → b ≡ true → ⊥
not_true b fails holds = let never : false ≡ true = sym fails ∙ holds in absurd cc

-- a place that is not least among others is no bound for them
least_without : (ps : List PlaceState) (p q : PlaceState) → is_least ps p ≡ false → is_least (p ∷ ps) q ≡ is_least ps q
unfolding is_least
least_without ps p q not_least = by_case (ltb p.time q.time) (is_least ps q) refl refl where
  by_case : (b d : Bool) → ltb p.time q.time ≡ b → is_least ps q ≡ d → cond b false d ≡ d
  by_case false d e h = refl
  by_case true false e h = refl
  by_case true true e h = absurd (not_true (is_least ps p) not_least (least_below ps q p h (omega (arith, ltb-true p.time q.time e))))

-- among places of which one has an earlier time than another, one is least
least_there : (ps : List PlaceState) (p : PlaceState) → is_least ps p ≡ false → (k : ℕ) × (first_at (is_least ps) ps ≡ Some k)
unfolding first_at is_least
least_there [] p not_least = absurd cc
least_there (r ∷ ps) p not_least = by_case (is_least ps r) refl (least_there ps r) where
  self : is_least (r ∷ ps) r ≡ is_least ps r
  self = ap (λ b. cond b false (is_least ps r)) (not_less r.time)

  by_case : (b : Bool) → is_least ps r ≡ b → (is_least ps r ≡ false → (k : ℕ) × (first_at (is_least ps) ps ≡ Some k)) → (k : ℕ) × (first_at (is_least (r ∷ ps)) (r ∷ ps) ≡ Some k)
  by_case true e rest = (0, ap (λ b. cond b (Some 0) (option_map suc (first_at (is_least (r ∷ ps)) ps))) (self ∙ e))
  by_case false e rest =
      let later = rest e in (
        suc later.0,
        ap (λ b. cond b (Some 0) (option_map suc (first_at (is_least (r ∷ ps)) ps))) (self ∙ e)
            ∙ ap (option_map suc) (first_same (is_least (r ∷ ps)) (is_least ps) ps (λ q. least_without ps r q e) ∙ later.1),
      )

-- the first least place of some, as a number
abbrev least_of : List PlaceState → ℕ
least_of ps = unwrap_or (first_at (is_least ps) ps) 0

-- it is the first of them, or among the others
least_more : (i : ℕ) (p : PlaceState) (ps : List PlaceState) → i + least_of (p ∷ ps) ≡ cond (is_least ps p) i ((i + 1) + least_of ps)
unfolding first_at is_least
least_more i p ps = by_case (is_least ps p) refl where
  self : is_least (p ∷ ps) p ≡ is_least ps p
  self = ap (λ b. cond b false (is_least ps p)) (not_less p.time)

  by_case : (b : Bool) → is_least ps p ≡ b → i + least_of (p ∷ ps) ≡ cond b i ((i + 1) + least_of ps)
  by_case true e = ap (λ b. i + unwrap_or (cond b (Some 0) (option_map suc (first_at (is_least (p ∷ ps)) ps))) 0) (self ∙ e) ∙ omega arith
  by_case false e =
      let there = least_there ps p e in
      let k : ℕ = there.0 in
      ap (λ b. i + unwrap_or (cond b (Some 0) (option_map suc (first_at (is_least (p ∷ ps)) ps))) 0) (self ∙ e)
      ∙ ap (λ found. i + unwrap_or (option_map suc found) 0) (first_same (is_least (p ∷ ps)) (is_least ps) ps (λ q. least_without ps p q e) ∙ there.1)
      ∙ (let next : i + suc k ≡ (i + 1) + k = omega arith in next)
      ∙ ap (λ found. (i + 1) + unwrap_or found 0) (sym there.1)

time_is : (p : Option Place) → law.time_of p ≡ (state_of p).time
time_is None = refl
time_is (Some p) = refl

-- the search for the oldest keeps the best so far, where none behind it is older
oldest_from : (best : ℕ) (b : PlaceState) (i : ℕ) (places : List (Option Place)) → law.oldest best b.time i places ≡ cond (is_least (states places) b) best (i + least_of (states places))
unfolding is_least
oldest_from best b i [] = refl
oldest_from best b i (p ∷ places) =
    ap (λ t. cond (ltb t b.time) (law.oldest i t (i + 1) places) (law.oldest best b.time (i + 1) places)) (time_is p)
    ∙ by_case (ltb q.time b.time) (is_least ps b) (is_least ps q) refl refl refl (λ best b i. oldest_from best b i places) where
      q : PlaceState
      q = state_of p

      ps : List PlaceState
      ps = states places

      by_case : (d e f : Bool) → ltb q.time b.time ≡ d → is_least ps b ≡ e → is_least ps q ≡ f → ((best : ℕ) (b : PlaceState) (i : ℕ) → law.oldest best b.time i places ≡ cond (is_least ps b) best (i + least_of ps)) → cond d (law.oldest i q.time (i + 1) places) (law.oldest best b.time (i + 1) places) ≡ cond (cond d false e) best (i + least_of (q ∷ ps))
      by_case true e f is_d is_e is_f rest = rest i q (i + 1) ∙ sym (least_more i q ps)
      by_case false true f is_d is_e is_f rest = rest best b (i + 1) ∙ ap (λ c. cond c best ((i + 1) + least_of ps)) is_e
      by_case false false true is_d is_e is_f rest = absurd (not_true (is_least ps b) is_e (least_below ps q b is_f (omega (arith, ltb-false q.time b.time is_d))))
      by_case false false false is_d is_e is_f rest =
          rest best b (i + 1) ∙ ap (λ c. cond c best ((i + 1) + least_of ps)) is_e
          ∙ sym (least_more i q ps ∙ ap (λ c. cond c i ((i + 1) + least_of ps)) is_f)

oldest_is : (places : List (Option Place)) → law.oldest_of places ≡ least_of (states places)
unfolding first_at
oldest_is [] = refl
oldest_is (p ∷ places) =
    let q : PlaceState = state_of p in
    let alone : 0 + least_of (q ∷ states places) ≡ least_of (q ∷ states places) = omega arith in
    ap (λ t. law.oldest 0 t 1 places) (time_is p) ∙ oldest_from 0 q 1 places ∙ sym (least_more 0 q (states places)) ∙ alone

-- The place of the next report

or_else_is : (found : Option ℕ) (other : ℕ) → law.or_else found other ≡ unwrap_or found other
or_else_is None other = refl
or_else_is (Some i) other = refl

place_is : (now : ℕ) (places : List (Option Place)) → law.place_for now places ≡ kept.place_for (states places) now
unfolding kept.place_for
place_is now places = by_case (law.lowest law.is_empty 0 places) refl where
  over : ℕ
  over = law.or_else (law.lowest (law.has_run_out now) 0 places) (law.oldest_of places)

  over' : ℕ
  over' = unwrap_or (first_at (kept.is_over now) (states places)) (least_of (states places))

  empty : law.lowest law.is_empty 0 places ≡ first_at kept.is_empty (states places)
  empty = lowest_is law.is_empty kept.is_empty places (empty_same places)

  by_case : (found : Option ℕ) → law.lowest law.is_empty 0 places ≡ found → law.or_else found over ≡ unwrap_or (first_at kept.is_empty (states places)) over'
  by_case (Some i) is = ap (λ found. unwrap_or found over') (sym is ∙ empty)
  by_case None is =
      or_else_is (law.lowest (law.has_run_out now) 0 places) (law.oldest_of places)
      ∙ ap (λ found. unwrap_or found (law.oldest_of places)) (lowest_is (law.has_run_out now) (kept.is_over now) places (over_same now 0 places is))
      ∙ ap (λ n. unwrap_or (first_at (kept.is_over now) (states places)) n) (oldest_is places)
      ∙ ap (λ found. unwrap_or found over') (sym is ∙ empty)

-- The places of a list of reports

states_set : (places : List (Option Place)) (i : ℕ) (p : Option Place) → slice_set (states places) i (state_of p) ≡ states (set places i p)
states_set [] i p = refl
states_set (q ∷ places) zero p = refl
states_set (q ∷ places) (suc i) p = ap (λ ps. state_of q ∷ ps) (states_set places i p)

places_are : (n : ℕ) (places : List (Option Place)) (reports : List Report) → places_after n (states places) (puts_of reports) ≡ states (law.cache_after (n + 1) places reports)
unfolding places_after kept.with_put
places_are n places [] = refl
places_are n places (r ∷ reports) =
    let place : Place = record { bytes = r.bytes; time = r.time; number = n + 1 } in
    ap (λ i. places_after (n + 1) (slice_set (states places) i (state_of (Some place))) (puts_of reports)) (sym (place_is r.time places))
    ∙ ap (λ ps. places_after (n + 1) ps (puts_of reports)) (states_set places (law.place_for r.time places) (Some place))
    ∙ places_are (n + 1) (set places (law.place_for r.time places) (Some place)) reports

-- the cache of the reports of a ledger answers by the laws
pub look_is : (reports : List Report) (bytes : List ℕ) (now : ℕ) → hit (puts_of reports) bytes now ≡ law.hit 4 reports bytes now
unfolding law.hit
look_is reports bytes now =
    ap (λ places. kept.hit_of places bytes now) (places_are 0 (replicate 4 None) reports)
    ∙ hit_in_is bytes now (law.cache_after 1 (replicate 4 None) reports)

-- what the places answer, where they are those of the reports
pub looked : (reports : List Report) (cache : CacheState) (bytes : List ℕ) (now : ℕ) → Caches reports cache → kept.hit_of cache.places bytes now ≡ law.hit 4 reports bytes now
looked reports cache bytes now is = ap (λ places. kept.hit_of places bytes now) is ∙ look_is reports bytes now

-- What each handler stands for behind a chain of deliveries.
use Rattle.std.proofs.Common.{◌≡◌, ◌∙◌, ℕ, zero, suc, Bool, true, false, cond, eqb, List, [], ◌∷◌, ◌++◌, length, refl, sym, ap, subst, append_assoc, append-nil, Option, Some, None}
use Rattle.std.specs.Prelude.{slice_get, slice_set, Result, Ok, Err, ⊤}
use Rattle.std.proofs.lemmas.Bool.{eqb-true, eq-eqb, ne_eqb}
use Rattle.ghes_notify.specs.declared.handler.Verdict.{Verdict}
use Rattle.ghes_notify.specs.declared.handler.Verdict.TheVariants.{Go, Stop, NoMemory}
use Rattle.ghes_notify.specs.declared.error.HandlerMemory.{HandlerMemory}
use Rattle.ghes_notify.specs.declared.order.Rank.{Rank}
use Rattle.ghes_notify.specs.declared.order.Tag.{Tag}
use Rattle.ghes_notify.specs.Delivery.{Delivery, Delivers, MatchVerdict, StandsOn, memory_of}
use Rattle.ghes_notify.specs.Order.{call_order}
use Rattle.ghes_handlers.specs.Told.{DeliversAlong, AreDelivered, AreTold, StandsBehind, goes_on, goes_at, is_told, given_to}
use Rattle.ghes_handlers.proofs.Apart.{IsAbsent, AreApart, call_order_apart}

get_same : {H : Type 0} (values : List H) (place : ℕ) (before after : H) → slice_get values place ≡ Some before
    → slice_get (slice_set values place after) place ≡ Some after
get_same [] place before after e = absurd cc
get_same (h ∷ values) zero before after e = refl
get_same (h ∷ values) (suc place) before after e = get_same values place before after e

get_other : {H : Type 0} (values : List H) (k place : ℕ) (after : H) → (k ≡ place → ⊥)
    → slice_get (slice_set values k after) place ≡ slice_get values place
get_other [] k place after other = refl
get_other (h ∷ values) zero zero after other = absurd (other refl)
get_other (h ∷ values) zero (suc place) after other = refl
get_other (h ∷ values) (suc k) zero after other = refl
get_other (h ∷ values) (suc k) (suc place) after other = get_other values k place after (λ e. other (ap suc e))

length_set : {H : Type 0} (values : List H) (place : ℕ) (after : H)
    → length (slice_set values place after) ≡ length values
length_set [] place after = refl
length_set (h ∷ values) zero after = refl
length_set (h ∷ values) (suc place) after = ap suc (length_set values place after)

-- a handler of which nothing was asked
behind_none : {H : Type 0} (stands : H → List Delivery → Type 0) (old new : Option H) → new ≡ old
    → StandsBehind stands [] old new
behind_none {H} stands old new same = subst (λ (o : Option H). StandsBehind stands [] old o) (sym same) (kept old)
  where
    kept : (o : Option H) → StandsBehind stands [] o o
    kept None = tt
    kept (Some h) = λ list holds. subst (λ (l : List Delivery). stands h l) (sym (append-nil list)) holds

behind_more : {H : Type 0} (stands : H → List Delivery → Type 0) (ds es : List Delivery) (old between new : Option H)
    → StandsBehind stands ds old between → StandsBehind stands es between new → StandsBehind stands (ds ++ es) old new
behind_more stands ds es None None None first then = tt
behind_more stands ds es None None (Some after) first then = absurd then
behind_more stands ds es None (Some mid) new first then = absurd first
behind_more stands ds es (Some before) None new first then = absurd first
behind_more stands ds es (Some before) (Some mid) None first then = absurd then
behind_more stands ds es (Some before) (Some mid) (Some after) first then =
    λ list holds. subst (λ (l : List Delivery). stands after l) (append_assoc list ds es)
    (then (list ++ ds) (first list holds))

apart_false : (k place : ℕ) → eqb k place ≡ false → k ≡ place → ⊥
apart_false k place there same = true_false (sym (eq-eqb k place same) ∙ there)
  where
    true_false : true ≡ false → ⊥
    true_false e = cc

cond_false : (b x : Bool) → x ≡ false → cond b x false ≡ false
cond_false true x e = e
cond_false false x e = refl

-- a handler that no rank names is not told
untold : {H : Type 0} (answers : H → Delivery → Verdict) (d : Delivery) (place : ℕ) (ranks : List Rank)
    (values : List H) → IsAbsent place ranks → is_told answers d place ranks values ≡ false
untold answers d place [] values absent = refl
untold answers d place (r ∷ ranks) values absent =
    let goes = goes_at answers d (slice_get values r.place) in
    ap (λ b. cond b true (cond goes (is_told answers d place ranks values) false)) (ne_eqb r.place place absent.0)
    ∙ cond_false goes (is_told answers d place ranks values) (untold answers d place ranks values absent.1)

-- who is told does not depend on a handler that no rank names
told_alike : {H : Type 0} (answers : H → Delivery → Verdict) (d : Delivery) (place k : ℕ) (ranks : List Rank)
    (values : List H) (after : H) → IsAbsent k ranks → is_told answers d place ranks
    (slice_set values k after) ≡ is_told answers d place ranks values
told_alike answers d place k [] values after absent = refl
told_alike answers d place k (r ∷ ranks) values after absent =
    ap (λ o. cond (eqb r.place place) true
    (cond (goes_at answers d o) (is_told answers d place ranks (slice_set values k after)) false))
    (get_other values k r.place after (λ e. absent.0 (sym e)))
    ∙ ap (λ b. cond (eqb r.place place) true (cond (goes_at answers d (slice_get values r.place)) b false))
    (told_alike answers d place k ranks values after absent.1)

cond_nested : (b x : Bool) (ds : List Delivery) → cond b (cond x ds []) [] ≡ cond (cond b x false) ds []
cond_nested true x ds = refl
cond_nested false x ds = refl

cond_empty : (b : Bool) (ds : List Delivery) → ds ≡ [] → cond b ds [] ≡ []
cond_empty true ds e = e
cond_empty false ds e = refl

-- what a delivery gives to the handler at a place
abbrev part : Bool → Delivery → List Delivery
part told d = cond told (d ∷ []) []

-- what is left of a delivery behind an answer
rest_told : {H : Type 0} (stands : H → List Delivery → Type 0) (answers : H → Delivery → Verdict) (d : Delivery)
    (place : ℕ) (r : Rank) (ranks : List Rank) (given new : List H) (answer : Result ⊤ HandlerMemory)
    (verdict : Verdict) →
    (Delivers stands answers d ranks given new answer → StandsBehind stands
    (part (is_told answers d place ranks given) d) (slice_get given place) (slice_get new place))
    → MatchVerdict verdict (Delivers stands answers d ranks given new answer) ((new ≡ given) × (answer ≡ Ok tt))
    ((new ≡ given) × (answer ≡ Err (memory_of r))) → StandsBehind stands
    (cond (goes_on verdict) (part (is_told answers d place ranks given) d) []) (slice_get given place)
    (slice_get new place)
rest_told stands answers d place r ranks given new answer Go further rest = further rest
rest_told stands answers d place r ranks given new answer Stop further rest = behind_none stands
    (slice_get given place) (slice_get new place) (ap (λ values. slice_get values place) rest.0)
rest_told stands answers d place r ranks given new answer NoMemory further rest = behind_none stands
    (slice_get given place) (slice_get new place) (ap (λ values. slice_get values place) rest.0)

-- the first handler of a delivery is the one at this place, or it is not
first_told : {H : Type 0} (stands : H → List Delivery → Type 0) (answers : H → Delivery → Verdict) (d : Delivery)
    (place : ℕ) (r : Rank) (ranks : List Rank) (old new : List H) (before after : H) (here : Bool)
    → eqb r.place place ≡ here → IsAbsent r.place ranks → slice_get old r.place ≡ Some before
    → StandsOn stands d before after
    → StandsBehind stands
    (cond (goes_on (answers before d)) (part (is_told answers d place ranks (slice_set old r.place after)) d) [])
    (slice_get (slice_set old r.place after) place) (slice_get new place)
    → StandsBehind stands (part (is_told answers d place (r ∷ ranks) old) d) (slice_get old place)
    (slice_get new place)
first_told {H} stands answers d place r ranks old new before after true here absent at stands_on rest =
    let same : r.place ≡ place = eqb-true r.place place here in
    let given = slice_set old r.place after in
    let goes = goes_on (answers before d) in
    let none : part (is_told answers d place ranks given) d ≡ [] = ap (λ b. part b d)
    (untold answers d place ranks given (subst (λ k. IsAbsent k ranks) same absent)) in
    let later : StandsBehind stands [] (slice_get given place) (slice_get new place) =
    subst (λ (ds : List Delivery). StandsBehind stands ds (slice_get given place) (slice_get new place))
    (cond_empty goes (part (is_told answers d place ranks given) d) none) rest in
    let was : slice_get old place ≡ Some before = ap (slice_get old) (sym same) ∙ at in
    let is : slice_get given place ≡ Some after = ap (slice_get given) (sym same)
    ∙ get_same old r.place before after at in
    let now : StandsBehind stands (d ∷ []) (slice_get old place) (slice_get given place) =
    subst (λ (o : Option H). StandsBehind stands (d ∷ []) o (slice_get given place)) (sym was)
    (subst (λ (o : Option H). StandsBehind stands (d ∷ []) (Some before) o) (sym is) stands_on) in
    let told : is_told answers d place (r ∷ ranks) old ≡ true = ap
    (λ b. cond b true
    (cond (goes_at answers d (slice_get old r.place)) (is_told answers d place ranks old) false)) here in
    subst (λ b. StandsBehind stands (part b d) (slice_get old place) (slice_get new place)) (sym told)
    (behind_more stands (d ∷ []) [] (slice_get old place) (slice_get given place) (slice_get new place) now later)
first_told {H} stands answers d place r ranks old new before after false there absent at stands_on rest =
    let given = slice_set old r.place after in
    let goes = goes_on (answers before d) in
    let other : slice_get given place ≡ slice_get old place = get_other old r.place place after
    (λ e. apart_false r.place place there e) in
    let told : is_told answers d place (r ∷ ranks) old ≡ cond goes (is_told answers d place ranks given) false =
    ap (λ b. cond b true
    (cond (goes_at answers d (slice_get old r.place)) (is_told answers d place ranks old) false)) there
    ∙ ap (λ o. cond (goes_at answers d o) (is_told answers d place ranks old) false) at
    ∙ ap (λ b. cond goes b false) (sym (told_alike answers d place r.place ranks old after absent)) in
    subst (λ b. StandsBehind stands (part b d) (slice_get old place) (slice_get new place)) (sym told)
    (subst (λ (ds : List Delivery). StandsBehind stands ds (slice_get old place) (slice_get new place))
    (cond_nested goes (is_told answers d place ranks given) (d ∷ []))
    (subst (λ (o : Option H). StandsBehind stands (cond goes (part (is_told answers d place ranks given) d) []) o
    (slice_get new place)) other rest))

-- one delivery
one_told : {H : Type 0} (stands : H → List Delivery → Type 0) (answers : H → Delivery → Verdict) (d : Delivery)
    (place : ℕ) (ranks : List Rank) (old new : List H) (answer : Result ⊤ HandlerMemory) → AreApart ranks
    → Delivers stands answers d ranks old new answer → StandsBehind stands
    (part (is_told answers d place ranks old) d) (slice_get old place) (slice_get new place)
one_told stands answers d place [] old new answer apart delivers = behind_none stands (slice_get old place)
    (slice_get new place) (ap (λ values. slice_get values place) delivers.0)
one_told {H} stands answers d place (r ∷ ranks) old new answer apart
    (verdict, given, (before, after, at, set, says, stands_on), rest) =
    let changed = slice_set old r.place after in
    let further : Delivers stands answers d ranks given new answer
    → StandsBehind stands (part (is_told answers d place ranks given) d) (slice_get given place)
    (slice_get new place) = one_told stands answers d place ranks given new answer apart.1 in
    let left : StandsBehind stands (cond (goes_on verdict) (part (is_told answers d place ranks given) d) [])
    (slice_get given place)
    (slice_get new place) = rest_told stands answers d place r ranks given new answer verdict further rest in
    let moved : StandsBehind stands (cond (goes_on verdict) (part (is_told answers d place ranks changed) d) [])
    (slice_get changed place) (slice_get new place) =
    subst (λ (values : List H). StandsBehind stands
    (cond (goes_on verdict) (part (is_told answers d place ranks values) d) []) (slice_get values place)
    (slice_get new place)) set left in
    first_told stands answers d place r ranks old new before after (eqb r.place place) refl apart.0 at stands_on
    (subst (λ v. StandsBehind stands (cond (goes_on v) (part (is_told answers d place ranks changed) d) [])
    (slice_get changed place) (slice_get new place)) says moved)

given_none : {H : Type 0} (answers : H → Delivery → Verdict) (place : ℕ) (ranks : List Rank) (ds : List Delivery)
    → given_to answers place ranks ds [] ≡ []
given_none answers place ranks [] = refl
given_none answers place ranks (d ∷ ds) = refl

-- a whole chain
each_told : {H : Type 0} (stands : H → List Delivery → Type 0) (answers : H → Delivery → Verdict) (place : ℕ)
    (ranks : List Rank) (ds : List Delivery) (chain : List (List H)) (old new : List H)
    (result : Result ⊤ HandlerMemory) → AreApart ranks → DeliversAlong stands answers ranks ds chain old new result
    → StandsBehind stands (given_to answers place ranks ds chain) (slice_get old place) (slice_get new place)
each_told stands answers place ranks [] chain old new result apart along = behind_none stands (slice_get old place)
    (slice_get new place) (ap (λ values. slice_get values place) along.1)
each_told stands answers place ranks (d ∷ ds) [] old new result apart along = absurd along
each_told {H} stands answers place ranks (d ∷ ds) (values ∷ chain) old new result apart
    (mid, Ok done, same, delivers, rest) =
    subst (λ (vs : List H). StandsBehind stands
    (part (is_told answers d place ranks vs) d ++ given_to answers place ranks ds chain) (slice_get old place)
    (slice_get new place)) (sym same)
    (behind_more stands (part (is_told answers d place ranks old) d) (given_to answers place ranks ds chain)
    (slice_get old place) (slice_get mid place) (slice_get new place)
    (one_told stands answers d place ranks old mid (Ok done) apart delivers)
    (each_told stands answers place ranks ds chain mid new result apart rest))
each_told {H} stands answers place ranks (d ∷ ds) (values ∷ chain) old new result apart
    (mid, Err id, same, delivers, rest) =
    let none : given_to answers place ranks ds chain ≡ [] = ap (given_to answers place ranks ds) rest.0
    ∙ given_none answers place ranks ds in
    let told = part (is_told answers d place ranks old) d in
    subst (λ (vs : List H). StandsBehind stands
    (part (is_told answers d place ranks vs) d ++ given_to answers place ranks ds chain) (slice_get old place)
    (slice_get new place)) (sym same)
    (behind_more stands told (given_to answers place ranks ds chain) (slice_get old place) (slice_get mid place)
    (slice_get new place)
    (one_told stands answers d place ranks old mid (Err id) apart delivers)
    (subst (λ (es : List Delivery). StandsBehind stands es (slice_get mid place) (slice_get new place)) (sym none)
    (behind_none stands (slice_get mid place) (slice_get new place) (ap (λ values. slice_get values place) rest.1))))

one_length : {H : Type 0} (stands : H → List Delivery → Type 0) (answers : H → Delivery → Verdict) (d : Delivery)
    (ranks : List Rank) (old new : List H) (answer : Result ⊤ HandlerMemory)
    → Delivers stands answers d ranks old new answer → length new ≡ length old
one_length stands answers d [] old new answer delivers = ap length delivers.0
one_length stands answers d (r ∷ ranks) old new answer (Go, given, (before, after, at, set, says, stands_on), rest) =
    one_length stands answers d ranks given new answer rest ∙ ap length set ∙ length_set old r.place after
one_length stands answers d (r ∷ ranks) old new answer
    (Stop, given, (before, after, at, set, says, stands_on), rest) =
    ap length rest.0 ∙ ap length set ∙ length_set old r.place after
one_length stands answers d (r ∷ ranks) old new answer
    (NoMemory, given, (before, after, at, set, says, stands_on), rest) =
    ap length rest.0 ∙ ap length set ∙ length_set old r.place after

all_length : {H : Type 0} (stands : H → List Delivery → Type 0) (answers : H → Delivery → Verdict) (ranks : List Rank)
    (ds : List Delivery) (chain : List (List H)) (old new : List H) (result : Result ⊤ HandlerMemory)
    → DeliversAlong stands answers ranks ds chain old new result → length new ≡ length old
all_length stands answers ranks [] chain old new result along = ap length along.1
all_length stands answers ranks (d ∷ ds) [] old new result along = absurd along
all_length stands answers ranks (d ∷ ds) (values ∷ chain) old new result (mid, Ok done, same, delivers, rest) =
    all_length stands answers ranks ds chain mid new result rest
    ∙ one_length stands answers d ranks old mid (Ok done) delivers
all_length stands answers ranks (d ∷ ds) (values ∷ chain) old new result (mid, Err id, same, delivers, rest) =
    ap length rest.1 ∙ one_length stands answers d ranks old mid (Err id) delivers

-- what a chain of deliveries along the order of the calls says of each handler
pub told_all : {H : Type 0} (stands : H → List Delivery → Type 0) (answers : H → Delivery → Verdict) (tags : List Tag)
    (ds : List Delivery) (old new : List H) (result : Result ⊤ HandlerMemory)
    → AreDelivered stands answers (call_order tags) ds old new result
    → AreTold stands answers (call_order tags) ds old new result
told_all stands answers tags ds old new result delivered = record {
  chain = delivered.0;
  along = delivered.1;
  count = all_length stands answers (call_order tags) ds delivered.0 old new result delivered.1;
  each = λ place. each_told stands answers place (call_order tags) ds delivered.0 old new result
      (call_order_apart tags) delivered.1;
}

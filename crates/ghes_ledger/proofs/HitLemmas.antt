-- A look that finds a report finds one of these bytes, not after now and within the window.
use Rattle.std.proofs.Common.{◌≡◌, ◌≤◌, ◌<◌, ℕ, zero, suc, ◌+◌, ◌-◌, Bool, true, false, cond, leb, ltb, ◌&&◌, List, [], ◌∷◌, ◌++◌, length, take, set, replicate, refl, sym, ap, subst, ◌∙◌, arith, append_assoc, Option, Some, None}
use Rattle.std.specs.Prelude.{slice_get, bytes_eq}
use Rattle.std.proofs.lemmas.Bool.{leb-true, ltb-true}
use Rattle.std.proofs.lemmas.List.{length-append}
use Rattle.std.proofs.lemmas.Slice.Eq.{bytes_eq-Decides}
use Rattle.ghes_ledger.specs.declared.ledger.Report.{Report}
use Rattle.ghes_ledger.specs.Reports.{window, IsFound, Place, place_hits, place_for, hit_in, cache_after, hit}

-- a place has a report of this list
record IsPlaceOf (reports : List Report) (place : Place) : Type 0 where
  report : Report
  at : slice_get reports (place.number - 1) ≡ Some report
  first : 1 ≤ place.number
  bytes : report.bytes ≡ place.bytes
  time : report.time ≡ place.time

abbrev MayBeOf : List Report → Option Place → Type 0
MayBeOf reports None = Unit {0}
MayBeOf reports (Some place) = IsPlaceOf reports place

abbrev AreOf : List Report → List (Option Place) → Type 0
AreOf reports [] = Unit {0}
AreOf reports (place ∷ places) = MayBeOf reports place × AreOf reports places

set_place : (reports : List Report) (places : List (Option Place)) (i : ℕ) (place : Option Place) → AreOf reports places → MayBeOf reports place → AreOf reports (set places i place)
set_place reports [] i place all here = tt
set_place reports (p ∷ places) zero place all here = (here, all.1)
set_place reports (p ∷ places) (suc i) place all here = (all.0, set_place reports places i place all.1 here)

get_at : (before : List Report) (report : Report) (later : List Report) → slice_get (before ++ report ∷ later) (length before) ≡ Some report
get_at [] report later = refl
get_at (x ∷ before) report later = get_at before report later

cache_is : (all done reports : List Report) (n : ℕ) (places : List (Option Place)) → all ≡ done ++ reports → n ≡ length done + 1 → AreOf all places → AreOf all (cache_after n places reports)
cache_is all done [] n places e count of = of
cache_is all done (report ∷ reports) n places e count of =
    let place : Place = record { bytes = report.bytes; time = report.time; number = n } in
    let back : n - 1 ≡ length done = omega (arith, count) in
    let here : IsPlaceOf all place = record {
      report = report;
      at = ap (slice_get all) back ∙ ap (λ xs. slice_get xs (length done)) e ∙ get_at done report reports;
      first = omega (arith, count);
      bytes = refl;
      time = refl;
    } in
    let size : n + 1 ≡ length (done ++ report ∷ []) + 1 = omega (arith, count, length-append done (report ∷ [])) in
    cache_is all (done ++ report ∷ []) reports (n + 1) (set places (place_for report.time places) (Some place))
    (e ∙ sym (append_assoc done (report ∷ []) reports)) size (set_place all places (place_for report.time places) (Some place) of here)

and_left : (x y : Bool) → (x && y) ≡ true → x ≡ true
and_left true y e = refl
and_left false y e = e

and_right : (x y : Bool) → (x && y) ≡ true → y ≡ true
and_right true y e = e
and_right false y e = absurd cc

some_number : (x y : ℕ) → Some x ≡ Some y → x ≡ y
some_number x y e = cc

found_here : (b : Bool) (reports : List Report) (place : Place) (places : List (Option Place)) (bytes : List ℕ) (now number : ℕ) → place_hits bytes now (Some place) ≡ b → IsPlaceOf reports place → (hit_in places bytes now ≡ Some number → IsFound reports bytes now number) → cond b (Some place.number) (hit_in places bytes now) ≡ Some number → IsFound reports bytes now number
found_here true reports place places bytes now number hits of later e =
    let same : place.number ≡ number = some_number place.number number e in
    let times = and_right (bytes_eq place.bytes bytes) (leb place.time now && ltb (now - place.time) window) hits in
    let past : place.time ≤ now = leb-true place.time now (and_left (leb place.time now) (ltb (now - place.time) window) times) in
    let recent : now - place.time < window = ltb-true (now - place.time) window (and_right (leb place.time now) (ltb (now - place.time) window) times) in
    record {
      report = of.report;
      at = ap (λ n. slice_get reports (n - 1)) (sym same) ∙ of.at;
      first = omega (arith, of.first, same);
      bytes = of.bytes ∙ (bytes_eq-Decides place.bytes bytes).0 (and_left (bytes_eq place.bytes bytes) (leb place.time now && ltb (now - place.time) window) hits);
      past = subst (λ t. t ≤ now) (sym of.time) past;
      recent = subst (λ t. now - t < window) (sym of.time) recent;
    }
found_here false reports place places bytes now number hits of later e = later e

found_in : (reports : List Report) (places : List (Option Place)) (bytes : List ℕ) (now number : ℕ) → AreOf reports places → hit_in places bytes now ≡ Some number → IsFound reports bytes now number
found_in reports [] bytes now number of e = absurd cc
found_in reports (None ∷ places) bytes now number of e = found_in reports places bytes now number of.1 e
found_in reports (Some place ∷ places) bytes now number of e =
    found_here (place_hits bytes now (Some place)) reports place places bytes now number refl of.0 (λ later. found_in reports places bytes now number of.1 later) e

-- empty places have reports of any list
none_of : (k : ℕ) (reports : List Report) → AreOf reports (replicate k None)
none_of zero reports = tt
none_of (suc k) reports = (tt, none_of k reports)

-- a look that finds a report
pub hit_is : (k : ℕ) (reports : List Report) (bytes : List ℕ) (now number : ℕ) → hit k reports bytes now ≡ Some number → IsFound reports bytes now number
unfolding hit
hit_is k reports bytes now number e =
    found_in reports (cache_after 1 (replicate k None) reports) bytes now number
    (cache_is reports [] reports 1 (replicate k None) refl refl (none_of k reports)) e

-- without a place no look finds a report
pub hit_without_places : (reports : List Report) (bytes : List ℕ) (now : ℕ) → hit 0 reports bytes now ≡ None
unfolding hit
hit_without_places reports bytes now = ap (λ places. hit_in places bytes now) (no_cache 1 reports)
  where
    no_cache : (n : ℕ) (reports : List Report) → cache_after n [] reports ≡ []
    no_cache n [] = refl
    no_cache n (report ∷ reports) = no_cache (n + 1) reports

-- a report of the first so many is one of all
pub found_in_all : (reports : List Report) (n : ℕ) (bytes : List ℕ) (now number : ℕ) → IsFound (take n reports) bytes now number → IsFound reports bytes now number
found_in_all reports n bytes now number f = record { report = f.report; at = get_of_front n (number - 1) reports f.report f.at; first = f.first; bytes = f.bytes; past = f.past; recent = f.recent } where
  get_of_front : (n k : ℕ) (xs : List Report) (x : Report) → slice_get (take n xs) k ≡ Some x → slice_get xs k ≡ Some x
  get_of_front zero k xs x e = absurd cc
  get_of_front (suc n) k [] x e = e
  get_of_front (suc n) zero (y ∷ xs) x e = e
  get_of_front (suc n) (suc k) (y ∷ xs) x e = get_of_front n k xs x e

-- Stretches of cells: how those of a list are sorted, joined and made runs.
use Rattle.std.proofs.Common.{◌≡◌, ◌≤◌, ◌<◌, ◌+◌, ◌-◌, ◌^◌, ◌⊎◌, ℕ, zero, suc, max, Bool, true, false, cond, ◌&&◌, ◌||◌, ltb, leb, List, [], ◌∷◌, ◌++◌, if◌then◌else◌, nat_le, length, get_or, map, replicate, Option, Some, None, refl, sym, ap, ◌∙◌, subst, arith, ⊎_elim, inl, inr}
use Rattle.std.proofs.lemmas.Bool.{cases_Bool, cases_lt, both_ways, cond-true, cond-false, false_from_ne_true, ltb-true, ltb-false, leb-true, leb-false, lt-ltb, le-ltb, le-leb, lt-leb, and_from, and_parts, and_right, or_from}
use Rattle.std.proofs.lemmas.Bool.Decides.{nat_tests}
use Rattle.std.proofs.lemmas.List.{get_or-map, get_or-replicate, get_or_past, append_assoc, length-replicate, length-map}
use Rattle.std.proofs.lemmas.List.Elements.{All-cons, All-head, All-tail, All-nil, All-get_or}
use Rattle.std.proofs.lemmas.List.Sorted.{list_any-IsPermutation}
use Rattle.std.specs.List.Sorted.{IsPermutation}
use Rattle.apei_base.specs.Bus.{same_space}
use Rattle.apei_base.specs.declared.region.Space.{Space}
use Rattle.apei_base.specs.declared.region.Space.TheVariants.{Memory, Port}
use Rattle.fw_cells.specs.declared.span.Span.{Span}
use Rattle.fw_cells.specs.Runs.{place_of, start_of, end_of, has_cell, cells_of, IsRun, AreRuns}
use Rattle.fw_cells.specs.Mapping.{is_in_run, is_in_runs, IsMapped}
use Rattle.fw_cells.specs.Spans.{has_place, covers, IsSpan, AreSpans, AreApart, AreSorted, CoversRuns, address_at, run_of}
use Rattle.fw_cells.proofs.RunLemmas.{has_place as has_place_of, has_from_place, has_within, cells_none}

-- sorted stretches have the places that they had
pub covers_sorted : (spans sorted : List Span) (mapped : List (Space × ℕ × ℕ)) → IsPermutation spans sorted → CoversRuns spans mapped → CoversRuns sorted mapped
covers_sorted spans sorted mapped moved before space address small =
    sym (list_any-IsPermutation (λ span. has_place span (place_of space address)) spans sorted moved) ∙ before space address small

-- a stretch with the ones behind it, each joined to it that begins in it or at its end
unfoldable pub joins : Span → List Span → List Span
joins held [] = held ∷ []
joins held (next ∷ more) =
    if nat_le next.start held.end then joins (record { start = held.start; end = max held.end next.end }) more else held ∷ joins next more

-- stretches that begin one behind another, from a place on
abbrev pub Rising : ℕ → List Span → Type 0
Rising from [] = Unit {0}
Rising from (span ∷ more) = (from ≤ span.start) × IsSpan span × Rising span.start more

-- stretches apart, from a place on
abbrev pub Above : ℕ → List Span → Type 0
Above from [] = Unit {0}
Above from (span ∷ more) = (from ≤ span.start) × IsSpan span × Above (span.end + 1) more

pub rising_from : (span : Span) (more : List Span) → AreSpans (span ∷ more) → AreSorted (span ∷ more) → Rising span.start more
rising_from span [] each sorted = tt
rising_from span (next ∷ more) each sorted =
    let behind = All-tail IsSpan span (next ∷ more) each in
    let order = sorted 0 1 span (omega arith) (omega arith) in (
      order,
      All-head IsSpan next more behind,
      rising_from next more behind (λ i j none upto below. sorted (suc i) (suc j) none (omega arith) (omega arith)),
    )

rising_lower : (low from : ℕ) (spans : List Span) → low ≤ from → Rising from spans → Rising low spans
rising_lower low from [] less rising = tt
rising_lower low from (span ∷ more) less rising =
    let first = rising.0 in
    (omega arith, rising.1, rising.2)

-- two stretches of which the second begins in the first or at its end
joined_lies : (start end begin finish : ℕ) → start ≤ begin → begin ≤ end → begin < finish → (end ≤ 2 ^ 64) ⊎ ((2 ^ 65 ≤ start) × (end ≤ 2 ^ 65 + 2 ^ 64)) → (finish ≤ 2 ^ 64) ⊎ ((2 ^ 65 ≤ begin) × (finish ≤ 2 ^ 65 + 2 ^ 64)) → (max end finish ≤ 2 ^ 64) ⊎ ((2 ^ 65 ≤ start) × (max end finish ≤ 2 ^ 65 + 2 ^ 64))
joined_lies start end begin finish from to some (inl one) (inl two) = inl (omega arith)
joined_lies start end begin finish from to some (inl one) (inr two) = absurd (omega (arith, two.0))
joined_lies start end begin finish from to some (inr one) (inl two) = absurd (omega (arith, one.0))
joined_lies start end begin finish from to some (inr one) (inr two) = inr (one.0, omega (arith, one.1, two.1))

joined_is : (held next : Span) → held.start ≤ next.start → next.start ≤ held.end → IsSpan held → IsSpan next → IsSpan (record { start = held.start; end = max held.end next.end })
joined_is held next from to is also =
    let some = is.some in
    let more = also.some in
    record { some = omega arith; lies = joined_lies held.start held.end next.start next.end from to more is.lies also.lies }

both_places : (start end begin finish place : ℕ) → start ≤ begin → begin ≤ end → (leb start place && ltb place (max end finish)) ≡ ((leb start place && ltb place end) || (leb begin place && ltb place finish))
both_places start end begin finish place from to = grind (arith, nat_tests)

or_assoc : (a b c : Bool) → ((a || b) || c) ≡ (a || (b || c))
or_assoc true b c = refl
or_assoc false b c = refl

-- joined stretches have the places that they had
pub joins_covers : (held : Span) (more : List Span) (place : ℕ) → Rising held.start more → covers (joins held more) place ≡ covers (held ∷ more) place
unfolding joins
joins_covers held [] place rising = refl
joins_covers held (next ∷ more) place rising =
    let wide : Span = record { start = held.start; end = max held.end next.end } in
    ⊎_elim
    (λ in'. ap (λ spans. covers spans place) (cond-true (leb next.start held.end) (joins (record { start = held.start; end = max held.end next.end }) more) (held ∷ joins next more) in')
    ∙ joins_covers (record { start = held.start; end = max held.end next.end }) more place (rising_lower held.start next.start more rising.0 rising.2)
    ∙ ap (λ b. b || covers more place) (both_places held.start held.end next.start next.end place rising.0 (leb-true next.start held.end in'))
    ∙ or_assoc (has_place held place) (has_place next place) (covers more place))
    (λ out. ap (λ spans. covers spans place) (cond-false (leb next.start held.end) (joins (record { start = held.start; end = max held.end next.end }) more) (held ∷ joins next more) out)
    ∙ ap (λ b. has_place held place || b) (joins_covers next more place rising.2))
    (cases_Bool (leb next.start held.end))

-- joined stretches are apart
pub joins_above : (from : ℕ) (held : Span) (more : List Span) → from ≤ held.start → IsSpan held → Rising held.start more → Above from (joins held more)
unfolding joins
joins_above from held [] low is rising = (low, is, tt)
joins_above from held (next ∷ more) low is rising =
    ⊎_elim
    (λ in'. subst (Above from) (sym (cond-true (leb next.start held.end) (joins (record { start = held.start; end = max held.end next.end }) more) (held ∷ joins next more) in'))
    (joins_above from (record { start = held.start; end = max held.end next.end }) more low
    (joined_is held next rising.0 (leb-true next.start held.end in') is rising.1) (rising_lower held.start next.start more rising.0 rising.2)))
    (λ out. let past = leb-false next.start held.end out in
    subst (Above from) (sym (cond-false (leb next.start held.end) (joins (record { start = held.start; end = max held.end next.end }) more) (held ∷ joins next more) out))
    (low, is, joins_above (held.end + 1) next more (omega arith) rising.1 rising.2))
    (cases_Bool (leb next.start held.end))

pub above_each : (from : ℕ) (spans : List Span) → Above from spans → AreSpans spans
above_each from [] above = All-nil IsSpan
above_each from (span ∷ more) above = All-cons IsSpan span more above.1 (above_each (span.end + 1) more above.2)

above_start : (from : ℕ) (spans : List Span) (k : ℕ) (none : Span) → Above from spans → k < length spans → from ≤ (get_or spans k none).start
above_start from [] k none above below = absurd (omega arith)
above_start from (span ∷ more) zero none above below = above.0
above_start from (span ∷ more) (suc k) none above below =
    let first = above.0 in
    let some = above.1.some in
    let later = above_start (span.end + 1) more k none above.2 (omega arith) in
    omega arith

pub above_apart : (from : ℕ) (spans : List Span) → Above from spans → AreApart spans
above_apart from [] above i j none less below = absurd (omega arith)
above_apart from (span ∷ more) above i zero none less below = absurd (omega arith)
above_apart from (span ∷ more) above zero (suc j) none less below =
    let later = above_start (span.end + 1) more j none above.2 (omega arith) in
    omega arith
above_apart from (span ∷ more) above (suc i) (suc j) none less below =
    above_apart (span.end + 1) more above.2 i j none (omega arith) (omega arith)

-- one stretch more in a loop over those that are joined
pub joins_in : (done : List Span) (held next : Span) (more all : List Span) → next.start ≤ held.end → done ++ joins held (next ∷ more) ≡ all → done ++ joins (record { start = held.start; end = max held.end next.end }) more ≡ all
unfolding joins
joins_in done held next more all in' before =
    ap (λ spans. done ++ spans) (sym (cond-true (leb next.start held.end) (joins (record { start = held.start; end = max held.end next.end }) more) (held ∷ joins next more) (le-leb next.start held.end in')))
    ∙ before

pub joins_out : (done : List Span) (held next : Span) (more all : List Span) → held.end < next.start → done ++ joins held (next ∷ more) ≡ all → (done ++ held ∷ []) ++ joins next more ≡ all
unfolding joins
joins_out done held next more all out before =
    append_assoc done (held ∷ []) (joins next more)
    ∙ ap (λ spans. done ++ spans) (sym (cond-false (leb next.start held.end) (joins (record { start = held.start; end = max held.end next.end }) more) (held ∷ joins next more) (lt-leb next.start held.end out)))
    ∙ before

pub joins_end : (held : Span) → joins held [] ≡ held ∷ []
unfolding joins
joins_end held = refl

-- what a stretch is among all cells, as a run
start_at : (start : ℕ) → place_of (cond (ltb start (2 ^ 65)) Memory Port) (cond (ltb start (2 ^ 65)) start (start - 2 ^ 65)) ≡ start
start_at start =
    ⊎_elim
    (λ low. ap (λ b. place_of (cond b Memory Port) (cond b start (start - 2 ^ 65))) low)
    (λ high. ap (λ b. place_of (cond b Memory Port) (cond b start (start - 2 ^ 65))) high ∙ (let past = ltb-false start (2 ^ 65) high in omega arith))
    (cases_Bool (ltb start (2 ^ 65)))

run_start : (span : Span) → start_of (run_of span) ≡ span.start
run_start span = start_at span.start

run_end : (span : Span) → IsSpan span → end_of (run_of span) ≡ span.end
run_end span is =
    let some = is.some in
    let start = run_start span in
    let long = length-replicate {A = ℕ} (span.end - span.start) 0 in
    omega arith

first_at : (start end : ℕ) → start < end → (end ≤ 2 ^ 64) ⊎ ((2 ^ 65 ≤ start) × (end ≤ 2 ^ 65 + 2 ^ 64)) → cond (ltb start (2 ^ 65)) start (start - 2 ^ 65) + (end - start) ≤ 2 ^ 64
first_at start end some (inl memory) = let low = lt-ltb start (2 ^ 65) (omega arith) in rw low (omega arith)
first_at start end some (inr ports) =
    let from = ports.0 in
    let to = ports.1 in
    let high = le-ltb start (2 ^ 65) (omega arith) in
    rw high (omega arith)

run_is : (span : Span) → IsSpan span → IsRun (run_of span)
run_is span is =
    let some = is.some in
    let long = length-replicate {A = ℕ} (span.end - span.start) 0 in
    let ends = first_at span.start span.end is.some is.lies in
    record { some = omega arith; ends = omega arith }

-- the runs of stretches that are apart are in order
pub runs_in_order : (spans : List Span) → AreSpans spans → AreApart spans → AreRuns (map run_of spans)
runs_in_order spans each apart = record {
  each = λ k none below.
      let no_span : Span = record { start = 0; end = 0 } in
      let long = length-map spans run_of in
      subst IsRun (sym (get_or-map run_of spans k no_span none (omega arith))) (run_is (get_or spans k no_span) (All-get_or IsSpan spans k no_span (omega arith) each));
  apart = λ i j none less below.
      let no_span : Span = record { start = 0; end = 0 } in
      let long = length-map spans run_of in
      let one = ap end_of (get_or-map run_of spans i no_span none (omega arith)) ∙ run_end (get_or spans i no_span) (All-get_or IsSpan spans i no_span (omega arith) each) in
      let two = ap start_of (get_or-map run_of spans j no_span none (omega arith)) ∙ run_start (get_or spans j no_span) in
      let between = apart i j no_span less (omega arith) in
      omega arith;
}

-- a run has the cells whose places its stretch has
run_has : (span : Span) (space : Space) (address : ℕ) → address < 2 ^ 64 → IsSpan span → has_cell (run_of span) space address ≡ has_place span (place_of space address)
run_has span space address small is =
    let start = run_start span in
    let end = run_end span is in
    ⊎_elim
    (λ has. has ∙ sym (let here = has_place_of (run_of span) space address has in
    and_from (leb span.start (place_of space address)) (ltb (place_of space address) span.end) (le-leb span.start (place_of space address) (omega arith)) (lt-ltb (place_of space address) span.end (omega arith))))
    (λ lacks. lacks ∙ sym (false_from_ne_true (has_place span (place_of space address)) (λ has.
    let here = and_parts (leb span.start (place_of space address)) (ltb (place_of space address) span.end) has in
    let from = leb-true span.start (place_of space address) here.0 in
    let to = ltb-true (place_of space address) span.end here.1 in
    both_ways (has_cell (run_of span) space address) lacks (has_from_place (run_of span) space address small (run_is span is) (omega arith) (omega arith)))))
    (cases_Bool (has_cell (run_of span) space address))

-- a cell of zeros
zero_at : (n k : ℕ) → get_or (replicate {A = ℕ} n 0) k 0 ≡ 0
zero_at n k =
    ⊎_elim (λ within. get_or-replicate n k 0 0 within) (λ past. get_or_past (replicate n 0) k 0 (rw length-replicate past)) (cases_lt k n)

or_choice : (b c : Bool) (mapped none : Option ℕ) → cond b mapped (cond c mapped none) ≡ cond (b || c) mapped none
or_choice true c mapped none = refl
or_choice false c mapped none = refl

-- the cells of the runs of stretches, up to the greatest address
cells_of_spans : (spans : List Span) (space : Space) (address : ℕ) → address < 2 ^ 64 → AreSpans spans → cells_of (map run_of spans) space address ≡ cond (covers spans (place_of space address)) (Some 0) None
unfolding cells_of
cells_of_spans [] space address small each = refl
cells_of_spans (span ∷ more) space address small each =
    let first = run_has span space address small (All-head IsSpan span more each) in
    let rest = cells_of_spans more space address small (All-tail IsSpan span more each) in
    let byte = zero_at (span.end - span.start) (address - address_at span.start) in
    ap (λ b. cond b (Some (get_or (replicate (span.end - span.start) 0) (address - address_at span.start) 0)) (cells_of (map run_of more) space address)) first
    ∙ ap (λ n. cond (has_place span (place_of space address)) (Some n) (cells_of (map run_of more) space address)) byte
    ∙ ap (λ o. cond (has_place span (place_of space address)) (Some 0) o) rest
    ∙ or_choice (has_place span (place_of space address)) (covers more (place_of space address)) (Some 0) None

-- no run has a cell past the greatest address
none_past : (runs : List (Space × ℕ × ℕ)) (space : Space) (address : ℕ) → 2 ^ 64 ≤ address → is_in_runs runs space address ≡ false
none_past [] space address past = refl
none_past (run ∷ more) space address past =
    or_from (same_space run.0 space && is_in_run run.1 run.2 address) (is_in_runs more space address)
    (and_right (same_space run.0 space) (is_in_run run.1 run.2 address)
    (and_right (leb run.1 address && ltb address (run.1 + run.2)) (ltb address (2 ^ 64)) (le-ltb address (2 ^ 64) past)))
    (none_past more space address past)

-- the runs of stretches that have the places of a list's runs map their cells
pub runs_mapped : (spans : List Span) (mapped : List (Space × ℕ × ℕ)) → AreSpans spans → AreApart spans → CoversRuns spans mapped → IsMapped (cells_of (map run_of spans)) mapped
runs_mapped spans mapped each apart covered space address =
    ⊎_elim
    (λ small. cells_of_spans spans space address small each ∙ ap (λ b. cond b (Some 0) None) (covered space address small))
    (λ past. cells_none (map run_of spans) space address (λ k none below.
    let is = (runs_in_order spans each apart).each k none below in
    let ends = is.ends in
    false_from_ne_true (has_cell (get_or (map run_of spans) k none) space address) (λ has.
    let here = has_within (get_or (map run_of spans) k none) space address has in
    absurd (omega arith)))
    ∙ sym (ap (λ b. cond b (Some 0) None) (none_past mapped space address past)))
    (cases_lt address (2 ^ 64))

-- what joined stretches are to those that they were
pub record Joins (spans joined : List Span) : Type 0 where
  pub each : AreSpans joined
  pub has : (place : ℕ) → covers joined place ≡ covers spans place
  pub apart : AreApart joined

pub joins_laws : (first : Span) (rest joined : List Span) → AreSpans (first ∷ rest) → AreSorted (first ∷ rest) → joined ≡ joins first rest → Joins (first ∷ rest) joined
joins_laws first rest joined each sorted is =
    let rising = rising_from first rest each sorted in
    let above : Above 0 (joins first rest) = joins_above 0 first rest (omega arith) (All-head IsSpan first rest each) rising in
    subst (Joins (first ∷ rest)) (sym is) (record {
      each = above_each 0 (joins first rest) above;
      has = λ place. joins_covers first rest place rising;
      apart = above_apart 0 (joins first rest) above;
    })

-- Places, and what is in the way there.
use Rattle.std.proofs.Common.{◌≡◌, ◌≤◌, ◌<◌, ◌+◌, ℕ, max, true, false, ◌&&◌, ltb, List, length, get_or, sym, ap, ◌∙◌, subst, arith, ⊎_elim}
use Rattle.std.proofs.lemmas.Bool.{cases_lt, cases_eq, both_ways, and_parts, and_from, false_from_ne_true, ltb-true, lt-ltb}
use Rattle.std.proofs.lemmas.List.Elements.{All-from_get_or}
use Rattle.std.proofs.lemmas.List.Folds.{list_any_none, list_any_at}
use Rattle.apei_base.specs.Bus.{same_space}
use Rattle.apei_base.specs.declared.region.Space.TheVariants.{Memory}
use Rattle.fw_map.specs.Runs.{end_of, shares, is_taken}
use Rattle.fw_map.specs.Placement.{place_at, area_at, IsLowest}
use Rattle.fw_map.specs.Taken.{AreSorted}
use Rattle.fw_map.specs.declared.run.Run.{Run}

-- what it means that two runs share a cell
pub record Meets (one other : Run) : Type 0 where
  pub space : same_space one.space other.space ≡ true
  pub in_one : max one.first other.first < end_of one
  pub in_other : max one.first other.first < end_of other

pub meets : (one other : Run) → shares one other ≡ true → Meets one other
meets one other is =
    let both = and_parts (same_space one.space other.space && ltb (max one.first other.first) (end_of one)) (ltb (max one.first other.first) (end_of other)) is in
    let front = and_parts (same_space one.space other.space) (ltb (max one.first other.first) (end_of one)) both.0 in
    record {
      space = front.0;
      in_one = ltb-true (max one.first other.first) (end_of one) front.1;
      in_other = ltb-true (max one.first other.first) (end_of other) both.1;
    }

pub shares_from : (one other : Run) → Meets one other → shares one other ≡ true
shares_from one other meet =
    and_from (same_space one.space other.space && ltb (max one.first other.first) (end_of one)) (ltb (max one.first other.first) (end_of other))
    (and_from (same_space one.space other.space) (ltb (max one.first other.first) (end_of one)) meet.space (lt-ltb (max one.first other.first) (end_of one) meet.in_one))
    (lt-ltb (max one.first other.first) (end_of other) meet.in_other)

-- a run that is in the way ends behind the place
pub in_way : (run : Run) (bytes number : ℕ) → shares run (area_at bytes number) ≡ true → place_at number < end_of run
in_way run bytes number is = let within = (meets run (area_at bytes number) is).in_one in omega arith

-- the first runs of a list are not in the way at a place, and something is at each lower place
pub record Swept (runs : List Run) (bytes i number : ℕ) : Type 0 where
  pub free : (k : ℕ) (none : Run) → k < i → shares (get_or runs k none) (area_at bytes number) ≡ false
  pub lower : (other : ℕ) → other < number → is_taken runs (area_at bytes other) ≡ true

-- an earlier run is not in the way at a place to which a later one moved the area
still_free : (one later : Run) (bytes number next : ℕ) → one.first ≤ later.first → number < next → shares one (area_at bytes number) ≡ false → shares later (area_at bytes number) ≡ true → shares one (area_at bytes next) ≡ false
still_free one later bytes number next order moved free taken =
    false_from_ne_true (shares one (area_at bytes next)) (λ is.
    let there = meets one (area_at bytes next) is in
    let within = there.in_one in
    let was = meets later (area_at bytes number) taken in
    let reach = was.in_other in
    both_ways (shares one (area_at bytes number)) free (shares_from one (area_at bytes number)
    (record { space = there.space; in_one = omega arith; in_other = omega arith })))

pub swept_more : (runs : List Run) (bytes i number next : ℕ) (run : Run) → AreSorted runs → i < length runs → Swept runs bytes i number
    → ((none : Run) → run ≡ get_or runs i none) → number ≤ next → shares run (area_at bytes next) ≡ false
    → ((other : ℕ) → number ≤ other → other < next → shares run (area_at bytes other) ≡ true)
    → Swept runs bytes (i + 1) next
swept_more runs bytes i number next run sorted within swept is from free taken = record {
  free = λ k none below.
      ⊎_elim
      (λ here. subst (λ one. shares one (area_at bytes next) ≡ false) (is none ∙ ap (λ place. get_or runs place none) (sym here)) free)
      (λ else. ⊎_elim
      (λ same. subst (λ n. shares (get_or runs k none) (area_at bytes n) ≡ false) same (swept.free k none (omega arith)))
      (λ other. still_free (get_or runs k none) run bytes number next
      (subst (λ one. (get_or runs k none).first ≤ one.first) (sym (is none)) (sorted k i none (omega arith) within)) (omega arith)
      (swept.free k none (omega arith)) (taken number (omega arith) (omega arith)))
      (cases_eq number next))
      (cases_eq k i);
  lower = λ other below.
      ⊎_elim
      (λ before. swept.lower other before)
      (λ from'. list_any_at (λ run. shares run (area_at bytes other)) runs i run within
      (subst (λ one. shares one (area_at bytes other) ≡ true) (is run) (taken other from' below)))
      (cases_lt other number);
}

pub swept_all : (runs : List Run) (bytes i number : ℕ) → length runs ≤ i → Swept runs bytes i number → IsLowest runs bytes number
swept_all runs bytes i number all swept = record {
  free = list_any_none (λ run. shares run (area_at bytes number)) runs
      (let no_run : Run = record { space = Memory; first = 0; bytes = 0 } in
      All-from_get_or (λ run. shares run (area_at bytes number) ≡ false) runs no_run (λ k below. swept.free k no_run (omega arith)));
  lower = swept.lower;
}

-- A binary search: what a comparison tells of all runs on one side, and how few comparisons there are.
use Rattle.std.proofs.Common.{◌≡◌, ◌≤◌, ◌<◌, ◌+◌, ◌-◌, ◌*◌, ◌^◌, ℕ, Bool, true, false, cond, ltb, None, List, [], length, get_or, refl, sym, ap, ◌∙◌, arith, ⊎_elim}
use Rattle.std.proofs.lemmas.Bool.{cases_lt, false_from_ne_true, ltb-true, ltb-false}
use Rattle.std.proofs.lemmas.Option.{none-some}
use Rattle.std.proofs.Math.Nat.{pow-suc, mul-le-mul_left}
use Rattle.apei_base.specs.declared.region.Space.{Space}
use Rattle.fw_cells.specs.declared.run.CellRun.{CellRun}
use Rattle.fw_cells.specs.Runs.{place_of, start_of, end_of, has_cell, cells_of, AreRuns, HasCellAt}
use Rattle.fw_cells.specs.Parts.{side_of}
use Rattle.fw_cells.specs.declared.run.Side.TheVariants.{Before, In, Behind}
use Rattle.fw_cells.proofs.RunLemmas.{has_place, has_from_place, cells_none, cells_had}

-- each run before one that ends in front of a place ends there too
pub ends_before : (runs : List CellRun) (k at place : ℕ) (none : CellRun) → AreRuns runs → at < length runs → k < at + 1 → end_of (get_or runs at none) ≤ place → end_of (get_or runs k none) ≤ place
ends_before runs k at place none all within upto ends =
    ⊎_elim
    (λ less. let apart = all.apart k at none less within in
    let some = (all.each at none within).some in omega arith)
    (λ more. let same : k ≡ at = omega arith in rw same ends)
    (cases_lt k at)

-- each run behind one that begins behind a place begins there too
pub starts_behind : (runs : List CellRun) (k at place : ℕ) (none : CellRun) → AreRuns runs → k < length runs → at ≤ k → place < start_of (get_or runs at none) → place < start_of (get_or runs k none)
starts_behind runs k at place none all within from starts =
    ⊎_elim
    (λ less. let apart = all.apart at k none less within in omega arith)
    (λ more. let same : k ≡ at = omega arith in rw same starts)
    (cases_lt at k)

-- a cell that stands behind the first so many runs and before all others is not mapped
pub cells_between : (runs : List CellRun) (at place : ℕ) (space : Space) (address : ℕ) → place ≡ place_of space address → ((k : ℕ) (none : CellRun) → k < at → end_of (get_or runs k none) ≤ place) → ((k : ℕ) (none : CellRun) → at ≤ k → k < length runs → place < start_of (get_or runs k none)) → cells_of runs space address ≡ None
cells_between runs at place space address is before behind =
    cells_none runs space address (λ k none below.
    false_from_ne_true (has_cell (get_or runs k none) space address) (λ has.
    let here = has_place (get_or runs k none) space address has in
    ⊎_elim
    (λ less. let ends = before k none less in absurd (omega arith))
    (λ more. let starts = behind k none more below in absurd (omega arith))
    (cases_lt k at)))

-- what one comparison tells
choice_before : (b c : Bool) → Before ≡ cond b Before (cond c In Behind) → b ≡ true
choice_before true c is = refl
choice_before false true is = absurd (cc)
choice_before false false is = absurd (cc)

choice_in : (b c : Bool) → In ≡ cond b Before (cond c In Behind) → (b ≡ false) × (c ≡ true)
choice_in true c is = absurd (cc)
choice_in false true is = (refl, refl)
choice_in false false is = absurd (cc)

choice_behind : (b c : Bool) → Behind ≡ cond b Before (cond c In Behind) → (b ≡ false) × (c ≡ false)
choice_behind true c is = absurd (cc)
choice_behind false true is = absurd (cc)
choice_behind false false is = (refl, refl)

pub side_before : (run : CellRun) (place : ℕ) → Before ≡ side_of run place → place < start_of run
side_before run place is = ltb-true place (start_of run) (choice_before (ltb place (start_of run)) (ltb place (end_of run)) is)

pub side_behind : (run : CellRun) (place : ℕ) → Behind ≡ side_of run place → end_of run ≤ place
side_behind run place is = ltb-false place (end_of run) (choice_behind (ltb place (start_of run)) (ltb place (end_of run)) is).1

side_in : (run : CellRun) (place : ℕ) → In ≡ side_of run place → (start_of run ≤ place) × (place < end_of run)
side_in run place is =
    let both = choice_in (ltb place (start_of run)) (ltb place (end_of run)) is in
    (ltb-false place (start_of run) both.0, ltb-true place (end_of run) both.1)

-- a run that a place is in has the cell that stands there
pub had_from_side : (runs : List CellRun) (at place : ℕ) (space : Space) (address : ℕ) → place ≡ place_of space address → address < 2 ^ 64 → AreRuns runs → at < length runs → ((none : CellRun) → In ≡ side_of (get_or runs at none) place) → HasCellAt runs space address at
had_from_side runs at place space address is small all within side = record {
  within = within;
  has = λ none.
      let here = side_in (get_or runs at none) place (side none) in
      has_from_place (get_or runs at none) space address small (all.each at none within) (omega arith) (omega arith);
}

-- and so that cell is mapped
pub mapped_if_had : (runs : List CellRun) (at : ℕ) (space : Space) (address : ℕ) → AreRuns runs → HasCellAt runs space address at → cells_of runs space address ≡ None → ⊥
mapped_if_had runs at space address all had none =
    let no_run : CellRun = record { space = space; first = 0; bytes = [] } in
    none-some (get_or (get_or runs at no_run).bytes (address - (get_or runs at no_run).first) 0) (sym none ∙ cells_had runs at no_run space address all had)

-- what a search has spent: with so many runs left of so many in all
pub record HasSpent (spent left all : ℕ) : Type 0 where
  pub halves : 2 ^ spent * left ≤ all
  pub few : 2 ^ spent ≤ 2 * all + 1

-- one comparison more, after which at most half of the runs are left
pub spends_more : (spent left half all : ℕ) → 0 < left → 2 * half ≤ left → HasSpent spent left all → HasSpent (spent + 1) half all
spends_more spent left half all some halves has =
    let more : 2 ^ (spent + 1) ≡ 2 ^ spent * 2 = ap (λ n. 2 ^ n) (omega arith) ∙ pow-suc 2 spent in
    let one = mul-le-mul_left {m = 1} {n = left} (2 ^ spent) some in
    let two = mul-le-mul_left {m = 2 * half} {n = left} (2 ^ spent) halves in
    let all_one = has.halves in
    let few = has.few in
    record { halves = rw more (omega arith); few = rw more (omega arith) }

-- the same, by the counter before the search, at its last step and now
pub spends_on : (from before now left half all : ℕ) → now ≡ before + 1 → from ≤ before → 0 < left → 2 * half ≤ left → HasSpent (before - from) left all → HasSpent (now - from) half all
spends_on from before now left half all one grows some halves has =
    let more : now - from ≡ (before - from) + 1 = omega arith in
    rw more (spends_more (before - from) left half all some halves has)

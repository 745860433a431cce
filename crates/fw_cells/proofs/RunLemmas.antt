-- Runs that are in order: which run has a cell, and which byte stands there.
use Rattle.std.proofs.Common.{◌≡◌, ◌≤◌, ◌<◌, ◌+◌, ◌-◌, ◌^◌, ℕ, zero, suc, Bool, true, false, ◌&&◌, ltb, leb, List, [], ◌∷◌, length, get_or, Some, None, refl, ◌∙◌, arith}
use Rattle.std.proofs.lemmas.Bool.{both_ways, cond-true, cond-false, false_from_ne_true}
use Rattle.std.proofs.lemmas.Bool.Decides.{nat_tests}
use Rattle.apei_base.specs.Bus.{same_space}
use Rattle.apei_base.specs.declared.region.Space.{Space}
use Rattle.apei_base.specs.declared.region.Space.TheVariants.{Memory, Port}
use Rattle.fw_cells.specs.declared.run.CellRun.{CellRun}
use Rattle.fw_cells.specs.Runs.{place_of, start_of, end_of, has_cell, cells_of, IsRun, AreRuns, HasCellAt}

-- a cell of a run stands between its ends
place_if_has : (of space : Space) (first count address : ℕ) → (same_space of space && leb first address && ltb address (first + count)) ≡ true → (place_of of first ≤ place_of space address) × (place_of space address < place_of of first + count)
place_if_has Memory Memory first count address has = (grind (arith, nat_tests), grind (arith, nat_tests))
place_if_has Memory Port first count address has = absurd (both_ways false refl has)
place_if_has Port Memory first count address has = absurd (both_ways false refl has)
place_if_has Port Port first count address has = (grind (arith, nat_tests), grind (arith, nat_tests))

pub has_place : (run : CellRun) (space : Space) (address : ℕ) → has_cell run space address ≡ true → (start_of run ≤ place_of space address) × (place_of space address < end_of run)
has_place run space address has = place_if_has run.space space run.first (length run.bytes) address has

-- what stands between the ends of a run is one of its cells
has_if_place : (of space : Space) (first count address : ℕ) → address < 2 ^ 64 → first + count ≤ 2 ^ 64 → place_of of first ≤ place_of space address → place_of space address < place_of of first + count → (same_space of space && leb first address && ltb address (first + count)) ≡ true
has_if_place Memory Memory first count address small ends from to = grind (arith, nat_tests)
has_if_place Memory Port first count address small ends from to = absurd (omega arith)
has_if_place Port Memory first count address small ends from to = absurd (omega arith)
has_if_place Port Port first count address small ends from to = grind (arith, nat_tests)

pub has_from_place : (run : CellRun) (space : Space) (address : ℕ) → address < 2 ^ 64 → IsRun run → start_of run ≤ place_of space address → place_of space address < end_of run → has_cell run space address ≡ true
has_from_place run space address small is from to =
    has_if_place run.space space run.first (length run.bytes) address small is.ends from to

-- a cell of a run is within it
within_if_has : (same : Bool) (first count address : ℕ) → (same && leb first address && ltb address (first + count)) ≡ true → (first ≤ address) × (address - first < count)
within_if_has true first count address has = (grind (arith, nat_tests), grind (arith, nat_tests))
within_if_has false first count address has = absurd (both_ways false refl has)

pub has_within : (run : CellRun) (space : Space) (address : ℕ) → has_cell run space address ≡ true → (run.first ≤ address) × (address - run.first < length run.bytes)
has_within run space address has = within_if_has (same_space run.space space) run.first (length run.bytes) address has

-- runs behind the first one
pub runs_tail : (run : CellRun) (more : List CellRun) → AreRuns (run ∷ more) → AreRuns more
runs_tail run more all = record {
  each = λ k none below. all.each (suc k) none (omega arith);
  apart = λ i j none lt below. all.apart (suc i) (suc j) none (omega arith) (omega arith);
}

-- the first run does not have the cell that a later one has
pub not_first : (run : CellRun) (more : List CellRun) (at : ℕ) (none : CellRun) (space : Space) (address : ℕ) → AreRuns (run ∷ more) → at < length more → has_cell (get_or more at none) space address ≡ true → has_cell run space address ≡ false
not_first run more at none space address all within has =
    false_from_ne_true (has_cell run space address) (λ first.
    let here = has_place run space address first in
    let there = has_place (get_or more at none) space address has in
    let apart = all.apart 0 (suc at) none (omega arith) (omega arith) in
    omega arith)

-- the byte in a cell that a run has
pub cells_at : (runs : List CellRun) (at : ℕ) (none : CellRun) (space : Space) (address : ℕ) → AreRuns runs → at < length runs → has_cell (get_or runs at none) space address ≡ true → cells_of runs space address ≡ Some (get_or (get_or runs at none).bytes (address - (get_or runs at none).first) 0)
unfolding cells_of
cells_at [] at none space address all within has = absurd (omega arith)
cells_at (run ∷ more) zero none space address all within has =
    cond-true (has_cell run space address) (Some (get_or run.bytes (address - run.first) 0)) (cells_of more space address) has
cells_at (run ∷ more) (suc at) none space address all within has =
    cond-false (has_cell run space address) (Some (get_or run.bytes (address - run.first) 0)) (cells_of more space address)
    (not_first run more at none space address all (omega arith) has)
    ∙ cells_at more at none space address (runs_tail run more all) (omega arith) has

-- a cell that no run has is not mapped
pub cells_none : (runs : List CellRun) (space : Space) (address : ℕ) → ((k : ℕ) (none : CellRun) → k < length runs → has_cell (get_or runs k none) space address ≡ false) → cells_of runs space address ≡ None
unfolding cells_of
cells_none [] space address each = refl
cells_none (run ∷ more) space address each =
    cond-false (has_cell run space address) (Some (get_or run.bytes (address - run.first) 0)) (cells_of more space address) (each 0 run (omega arith))
    ∙ cells_none more space address (λ k none below. each (suc k) none (omega arith))

-- the byte in a cell, by the run that is said to have it
pub cells_had : (runs : List CellRun) (at : ℕ) (none : CellRun) (space : Space) (address : ℕ) → AreRuns runs → HasCellAt runs space address at → cells_of runs space address ≡ Some (get_or (get_or runs at none).bytes (address - (get_or runs at none).first) 0)
cells_had runs at none space address all had = cells_at runs at none space address all had.within (had.has none)

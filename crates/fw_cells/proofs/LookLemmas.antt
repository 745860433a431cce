-- Bytes that are read from cells.
use Rattle.std.proofs.Common.{◌≡◌, ◌≤◌, ◌<◌, ◌+◌, ◌-◌, ◌^◌, ℕ, suc, Bool, true, false, ◌&&◌, ltb, leb, List, [], ◌∷◌, length, get_or, take, drop, Some, unwrap_or, refl, sym, ap, ◌∙◌, subst, arith, add-zero, length-drop}
use Rattle.std.proofs.lemmas.Bool.{cond-true, both_ways, lt-ltb}
use Rattle.std.proofs.lemmas.Bool.Decides.{nat_tests}
use Rattle.std.proofs.lemmas.List.{get_or-take, get_or-drop, length-take}
use Rattle.apei_base.specs.Bus.{Cells, byte_at, bytes_at, same_space}
use Rattle.apei_base.specs.declared.region.Space.{Space}
use Rattle.fw_cells.specs.declared.run.CellRun.{CellRun}
use Rattle.fw_cells.specs.Runs.{has_cell, cells_of, AreRuns, HasCellAt}
use Rattle.fw_cells.proofs.RunLemmas.{cells_at, has_within}

-- the byte in a cell that is mapped
pub byte_some : (cells : Cells) (space : Space) (address byte : ℕ) → address < 2 ^ 64 → cells space address ≡ Some byte → byte_at cells space address ≡ byte
byte_some cells space address byte small is =
    cond-true (ltb address (2 ^ 64)) (unwrap_or (cells space address) 0) 0 (lt-ltb address (2 ^ 64) small) ∙ ap (λ o. unwrap_or o 0) is

-- a cell further on that is still within the run
has_on : (same : Bool) (first count here there : ℕ) → (same && leb first here && ltb here (first + count)) ≡ true → here ≤ there → there - first < count → (same && leb first there && ltb there (first + count)) ≡ true
has_on true first count here there has on within = grind (arith, nat_tests)
has_on false first count here there has on within = absurd (both_ways false refl has)

pub has_further : (run : CellRun) (space : Space) (here there : ℕ) → has_cell run space here ≡ true → here ≤ there → there - run.first < length run.bytes → has_cell run space there ≡ true
has_further run space here there has on within =
    has_on (same_space run.space space) run.first (length run.bytes) here there has on within

-- where the cell of a run is in it
in_run : (same : Bool) (first count here : ℕ) → (same && leb first here && ltb here (first + count)) ≡ true → first ≤ here
in_run true first count here has = grind (arith, nat_tests)
in_run false first count here has = absurd (both_ways false refl has)

-- the byte in a cell, by the run that has an earlier cell and reaches as far
pub byte_further : (runs : List CellRun) (at : ℕ) (none : CellRun) (space : Space) (address k : ℕ) → AreRuns runs → HasCellAt runs space address at → address - (get_or runs at none).first + k < length (get_or runs at none).bytes → byte_at (cells_of runs) space (address + k) ≡ get_or (get_or runs at none).bytes (address - (get_or runs at none).first + k) 0
byte_further runs at none space address k all had within =
    let from : (get_or runs at none).first ≤ address =
    in_run (same_space (get_or runs at none).space space) (get_or runs at none).first (length (get_or runs at none).bytes) address (had.has none) in
    let ends = (all.each at none had.within).ends in
    let place : address + k - (get_or runs at none).first ≡ address - (get_or runs at none).first + k = omega arith in
    let has : has_cell (get_or runs at none) space (address + k) ≡ true =
    has_further (get_or runs at none) space address (address + k) (had.has none) (omega arith) (omega arith) in
    byte_some (cells_of runs) space (address + k) (get_or (get_or runs at none).bytes (address + k - (get_or runs at none).first) 0) (omega arith)
    (cells_at runs at none space (address + k) all had.within has)
    ∙ ap (λ n. get_or (get_or runs at none).bytes n 0) place

-- bytes that stand one by one in cells are the bytes from there on
pub bytes_from_each : (cells : Cells) (space : Space) (first : ℕ) (bytes : List ℕ) → ((k : ℕ) → k < length bytes → get_or bytes k 0 ≡ byte_at cells space (first + k)) → bytes ≡ bytes_at cells space first (length bytes)
unfolding bytes_at
bytes_from_each cells space first [] each = refl
bytes_from_each cells space first (byte ∷ bytes) each =
    let head : byte ≡ byte_at cells space first = each 0 (omega arith) ∙ ap (byte_at cells space) (add-zero first) in
    let tail : bytes ≡ bytes_at cells space (first + 1) (length bytes) =
    bytes_from_each cells space (first + 1) bytes (λ k below.
    let place : first + 1 + k ≡ first + suc k = omega arith in
    each (suc k) (omega arith) ∙ ap (byte_at cells space) (sym place)) in
    cc

-- the byte in a cell, by the run at a place
pub byte_by_run : (runs : List CellRun) (at : ℕ) (run : CellRun) (space : Space) (address k : ℕ) → AreRuns runs → HasCellAt runs space address at → run ≡ get_or runs at run → address - run.first + k < length run.bytes → byte_at (cells_of runs) space (address + k) ≡ get_or run.bytes (address - run.first + k) 0
byte_by_run runs at run space address k all had is within =
    let Within : CellRun → Type 0 = λ r. address - r.first + k < length r.bytes in
    byte_further runs at run space address k all had (subst Within is within) ∙ ap (λ r. get_or r.bytes (address - r.first + k) 0) (sym is)

-- bytes of a run that has them all
pub bytes_in_run : (runs : List CellRun) (at : ℕ) (run : CellRun) (space : Space) (first n : ℕ) → AreRuns runs → HasCellAt runs space first at → run ≡ get_or runs at run → first - run.first + n ≤ length run.bytes → take n (drop (first - run.first) run.bytes) ≡ bytes_at (cells_of runs) space first n
bytes_in_run runs at run space first n all had is fits =
    let from = first - run.first in
    let long : length (take n (drop from run.bytes)) ≡ n = omega (arith, length-take n (drop from run.bytes), length-drop from run.bytes) in
    bytes_from_each (cells_of runs) space first (take n (drop from run.bytes)) (λ k below.
    get_or-take n (drop from run.bytes) k 0 (omega arith) ∙ get_or-drop from run.bytes k 0
    ∙ sym (byte_by_run runs at run space first k all had is (omega arith)))
    ∙ ap (bytes_at (cells_of runs) space first) long

-- the byte of the cell itself
pub byte_here : (runs : List CellRun) (at : ℕ) (run : CellRun) (bytes : List ℕ) (space : Space) (address : ℕ) → AreRuns runs → HasCellAt runs space address at → run ≡ get_or runs at run → bytes ≡ run.bytes → get_or bytes (address - run.first) 0 ≡ byte_at (cells_of runs) space address
byte_here runs at run bytes space address all had is lent =
    let Has : CellRun → Type 0 = λ r. has_cell r space address ≡ true in
    let within = has_within run space address (subst Has (sym is) (had.has run)) in
    let none : address + 0 ≡ address = omega arith in
    let same : address - run.first + 0 ≡ address - run.first = omega arith in
    ap (λ b. get_or b (address - run.first) 0) lent ∙ ap (λ n. get_or run.bytes n 0) (sym same)
    ∙ sym (byte_by_run runs at run space address 0 all had is (omega arith)) ∙ ap (byte_at (cells_of runs) space) none

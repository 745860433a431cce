-- Bytes that are put into a run, and what the cells are then.
use Rattle.std.proofs.Common.{◌≡◌, ◌≤◌, ◌<◌, ◌+◌, ◌-◌, ◌^◌, ◌⊎◌, ℕ, zero, suc, Bool, true, false, cond, ◌&&◌, ltb, leb, List, [], ◌∷◌, ◌++◌, length, get_or, set, take, drop, Option, Some, refl, sym, ap, ◌∙◌, arith, ⊎_elim, get_or-set_same, get_or-set_other, inl, inr, length-append, length-drop}
use Rattle.std.proofs.lemmas.Bool.{cases_eq, cases_lt, both_ways}
use Rattle.std.proofs.lemmas.Bool.Decides.{nat_tests}
use Rattle.std.proofs.lemmas.List.{length-take, length-set, get_or_append_left, get_or-append_right, get_or-take, get_or-drop}
use Rattle.std.specs.Option.{option_map}
use Rattle.apei_base.specs.Bus.{Cells, same_space}
use Rattle.apei_base.specs.declared.region.Space.{Space}
use Rattle.apei_base.specs.declared.region.Space.TheVariants.{Memory, Port}
use Rattle.fw_cells.specs.declared.run.CellRun.{CellRun}
use Rattle.fw_cells.specs.Runs.{start_of, has_cell, cells_of, AreRuns, HasCellAt}
use Rattle.fw_cells.specs.Mapping.{is_in_run}
use Rattle.fw_cells.specs.Changes.{with_bytes_at, AreSame}
use Rattle.fw_cells.specs.Parts.{with_part, run_with, IsPutAt}
use Rattle.fw_cells.proofs.RunLemmas.{cells_at, runs_tail, not_first}

-- bytes with a part that is replaced are as many
pub length-with_part : (bytes : List ℕ) (from : ℕ) (part : List ℕ) → from + length part ≤ length bytes → length (with_part bytes from part) ≡ length bytes
length-with_part bytes from part fits =
    grind (arith, length-take {A = ℕ}, length-append {A = ℕ}, length-drop {A = ℕ})

-- a byte of the part
part_in : (bytes : List ℕ) (from : ℕ) (part : List ℕ) (k : ℕ) → from + length part ≤ length bytes → from ≤ k → k < from + length part → get_or (with_part bytes from part) k 0 ≡ get_or part (k - from) 0
part_in bytes from part k fits here there =
    let front : length (take from bytes) ≡ from = omega (arith, length-take from bytes) in
    get_or-append_right (take from bytes) (part ++ drop (from + length part) bytes) from k 0 front here
    ∙ get_or_append_left part (drop (from + length part) bytes) 0 (k - from) (omega arith)

-- a byte before or behind the part
part_out : (bytes : List ℕ) (from : ℕ) (part : List ℕ) (k : ℕ) → from + length part ≤ length bytes → (k < from) ⊎ (from + length part ≤ k) → get_or (with_part bytes from part) k 0 ≡ get_or bytes k 0
part_out bytes from part k fits out =
    let front : length (take from bytes) ≡ from = omega (arith, length-take from bytes) in
    let back : (from + length part ≤ k) → from + length part + (k - from - length part) ≡ k = λ past. omega arith in
    ⊎_elim
    (λ before. get_or_append_left (take from bytes) (part ++ drop (from + length part) bytes) 0 k (omega arith) ∙ get_or-take from bytes k 0 before)
    (λ past. get_or-append_right (take from bytes) (part ++ drop (from + length part) bytes) from k 0 front (omega arith)
    ∙ get_or-append_right part (drop (from + length part) bytes) (length part) (k - from) 0 refl (omega arith)
    ∙ get_or-drop (from + length part) bytes (k - from - length part) 0
    ∙ ap (λ n. get_or bytes n 0) (back past))
    out

-- a run in the place of another
set_here : (runs : List CellRun) (at k : ℕ) (run none : CellRun) → at < length runs → k ≡ at → get_or (set runs at run) k none ≡ run
set_here runs at k run none within is = rw is (get_or-set_same runs at run none within)

-- Runs where the bytes of one are as many as before are in order as before.
module _ (runs : List CellRun) (at from : ℕ) (part : List ℕ) (within : at < length runs) where
  -- where the runs begin
  start_kept : (k : ℕ) (none : CellRun) → start_of (get_or (set runs at (run_with (get_or runs at none) from part)) k none) ≡ start_of (get_or runs k none)
  start_kept k none =
      ⊎_elim
      (λ here. ap start_of (set_here runs at k (run_with (get_or runs at none) from part) none within here) ∙ ap (λ n. start_of (get_or runs n none)) (sym here))
      (λ else. ap start_of (get_or-set_other runs at k (run_with (get_or runs at none) from part) none else))
      (cases_eq k at)

  -- their first addresses
  first_kept : (k : ℕ) (none : CellRun) → (get_or (set runs at (run_with (get_or runs at none) from part)) k none).first ≡ (get_or runs k none).first
  first_kept k none =
      ⊎_elim
      (λ here. ap (λ r. r.first) (set_here runs at k (run_with (get_or runs at none) from part) none within here) ∙ ap (λ n. (get_or runs n none).first) (sym here))
      (λ else. ap (λ r. r.first) (get_or-set_other runs at k (run_with (get_or runs at none) from part) none else))
      (cases_eq k at)

  -- how many cells they have
  count_kept : (k : ℕ) (none : CellRun) → from + length part ≤ length (get_or runs at none).bytes → length (get_or (set runs at (run_with (get_or runs at none) from part)) k none).bytes ≡ length (get_or runs k none).bytes
  count_kept k none fits =
      ⊎_elim
      (λ here. ap (λ r. length r.bytes) (set_here runs at k (run_with (get_or runs at none) from part) none within here)
      ∙ length-with_part (get_or runs at none).bytes from part fits ∙ ap (λ n. length (get_or runs n none).bytes) (sym here))
      (λ else. ap (λ r. length r.bytes) (get_or-set_other runs at k (run_with (get_or runs at none) from part) none else))
      (cases_eq k at)

-- the runs after a part was put are in order
pub put_order : (old new : List CellRun) (at : ℕ) (space : Space) (address : ℕ) (part : List ℕ) → AreRuns old → HasCellAt old space address at → IsPutAt old at address part new → AreRuns new
put_order old new at space address part all had put = record {
  each = λ k none below.
      let was = put none in
      let from = address - (get_or old at none).first in
      let first = first_kept old at (address - (get_or old at none).first) part had.within k none in
      let count = count_kept old at (address - (get_or old at none).first) part had.within k none was.0 in
      let long : length new ≡ length old = ap length was.1 ∙ length-set old at (run_with (get_or old at none) (address - (get_or old at none).first) part) in
      let is = all.each k none (omega arith) in
      let first' : (get_or new k none).first ≡ (get_or old k none).first = ap (λ rs. (get_or rs k none).first) was.1 ∙ first in
      let count' : length (get_or new k none).bytes ≡ length (get_or old k none).bytes = ap (λ rs. length (get_or rs k none).bytes) was.1 ∙ count in
      let some = is.some in
      let ends = is.ends in
      record { some = omega arith; ends = omega arith };
  apart = λ i j none lt below.
      let was = put none in
      let one = start_kept old at (address - (get_or old at none).first) part had.within i none in
      let two = start_kept old at (address - (get_or old at none).first) part had.within j none in
      let count = count_kept old at (address - (get_or old at none).first) part had.within i none was.0 in
      let long : length new ≡ length old = ap length was.1 ∙ length-set old at (run_with (get_or old at none) (address - (get_or old at none).first) part) in
      let one' : start_of (get_or new i none) ≡ start_of (get_or old i none) = ap (λ rs. start_of (get_or rs i none)) was.1 ∙ one in
      let two' : start_of (get_or new j none) ≡ start_of (get_or old j none) = ap (λ rs. start_of (get_or rs j none)) was.1 ∙ two in
      let count' : length (get_or new i none).bytes ≡ length (get_or old i none).bytes = ap (λ rs. length (get_or rs i none).bytes) was.1 ∙ count in
      let apart = all.apart i j none lt (omega arith) in
      omega arith;
}

-- two choices of which at most one holds
apart_choice : (b c : Bool) (X Y Z : Option ℕ) → (b ≡ true → c ≡ false) → cond c Y (cond b X Z) ≡ cond b X (cond c Y Z)
apart_choice true true X Y Z apart = absurd (both_ways true (apart refl) refl)
apart_choice true false X Y Z apart = refl
apart_choice false true X Y Z apart = refl
apart_choice false false X Y Z apart = refl

-- a choice made twice
same_choice : (b : Bool) (X Y Z : Option ℕ) → cond b X Z ≡ cond b X (cond b Y Z)
same_choice true X Y Z = refl
same_choice false X Y Z = refl

-- the cells of runs of which one has other bytes
cells_set : (runs : List CellRun) (at : ℕ) (none : CellRun) (bytes : List ℕ) (space : Space) (address : ℕ) → AreRuns runs → at < length runs → length bytes ≡ length (get_or runs at none).bytes → cells_of (set runs at (record (get_or runs at none) { bytes = bytes })) space address ≡ cond (has_cell (get_or runs at none) space address) (Some (get_or bytes (address - (get_or runs at none).first) 0)) (cells_of runs space address)
unfolding cells_of
cells_set [] at none bytes space address all within long = absurd (omega arith)
cells_set (run ∷ more) zero none bytes space address all within long =
    ap (λ n. cond (same_space run.space space && leb run.first address && ltb address (run.first + n)) (Some (get_or bytes (address - run.first) 0)) (cells_of more space address)) long
    ∙ same_choice (has_cell run space address) (Some (get_or bytes (address - run.first) 0)) (Some (get_or run.bytes (address - run.first) 0)) (cells_of more space address)
cells_set (run ∷ more) (suc at) none bytes space address all within long =
    ap (λ o. cond (has_cell run space address) (Some (get_or run.bytes (address - run.first) 0)) o) (cells_set more at none bytes space address (runs_tail run more all) (omega arith) long)
    ∙ apart_choice (has_cell (get_or more at none) space address) (has_cell run space address)
    (Some (get_or bytes (address - (get_or more at none).first) 0)) (Some (get_or run.bytes (address - run.first) 0)) (cells_of more space address)
    (not_first run more at none space address all (omega arith))

-- what is in one space with a third is in one with it
same_through : (one other third : Space) → same_space one other ≡ true → same_space one third ≡ true → same_space other third ≡ true
same_through Memory Memory third is also = also
same_through Memory Port third is also = absurd (both_ways false refl is)
same_through Port Memory third is also = absurd (both_ways false refl is)
same_through Port Port third is also = also

same_back : (one other third : Space) → same_space one other ≡ true → same_space other third ≡ true → same_space one third ≡ true
same_back Memory Memory third is also = also
same_back Memory Port third is also = absurd (both_ways false refl is)
same_back Port Memory third is also = absurd (both_ways false refl is)
same_back Port Port third is also = also

-- a choice in a choice
both_choices : (b c : Bool) (X Y : Option ℕ) → cond b (cond c X Y) Y ≡ cond (b && c) X Y
both_choices true c X Y = refl
both_choices false c X Y = refl

-- one of two choices, where the second is within the first
either_choice : (h r : Bool) (X A C : Option ℕ) → (h ≡ true → r ≡ true → X ≡ A) → (h ≡ true → r ≡ false → X ≡ C) → (r ≡ true → h ≡ true) → cond h X C ≡ cond r A C
either_choice true true X A C both alone within = both refl refl
either_choice true false X A C both alone within = alone refl refl
either_choice false true X A C both alone within = absurd (both_ways false refl (within refl))
either_choice false false X A C both alone within = refl

-- an address that bytes are written to
in_reach : (same : Bool) (first n address : ℕ) → (same && (leb first address && ltb address (first + n) && ltb address (2 ^ 64))) ≡ true → (same ≡ true) × (first ≤ address) × (address < first + n)
in_reach true first n address is = (refl, grind (arith, nat_tests), grind (arith, nat_tests))
in_reach false first n address is = absurd (both_ways false refl is)

out_of_reach : (first n address : ℕ) → address < 2 ^ 64 → (true && (leb first address && ltb address (first + n) && ltb address (2 ^ 64))) ≡ false → (address < first) ⊎ (first + n ≤ address)
out_of_reach first n address small is = ⊎_elim (λ before. inl before) (λ from. inr (grind (arith, nat_tests))) (cases_lt address first)

has_parts : (same : Bool) (first count address : ℕ) → (same && leb first address && ltb address (first + count)) ≡ true → (same ≡ true) × (first ≤ address) × (address < first + count)
has_parts true first count address is = (refl, grind (arith, nat_tests), grind (arith, nat_tests))
has_parts false first count address is = absurd (both_ways false refl is)

has_from_parts : (same : Bool) (first count address : ℕ) → same ≡ true → first ≤ address → address < first + count → (same && leb first address && ltb address (first + count)) ≡ true
has_from_parts true first count address is from to = grind (arith, nat_tests)
has_from_parts false first count address is from to = absurd (both_ways false refl is)

-- one cell after a part was put
put_cell : (old : List CellRun) (at : ℕ) (none : CellRun) (of : Space) (first : ℕ) (part : List ℕ) (space : Space) (address : ℕ) → AreRuns old → HasCellAt old of first at → first - (get_or old at none).first + length part ≤ length (get_or old at none).bytes → cells_of (set old at (run_with (get_or old at none) (first - (get_or old at none).first) part)) space address ≡ with_bytes_at (cells_of old) of first part space address
put_cell old at none of first part space address all had fits =
    let run = get_or old at none in
    let from = first - (get_or old at none).first in
    let bytes = with_part (get_or old at none).bytes (first - (get_or old at none).first) part in
    let here = has_parts (same_space (get_or old at none).space of) (get_or old at none).first (length (get_or old at none).bytes) first (had.has none) in
    let ends = (all.each at none had.within).ends in
    cells_set old at none (with_part (get_or old at none).bytes (first - (get_or old at none).first) part) space address all had.within
    (length-with_part (get_or old at none).bytes (first - (get_or old at none).first) part fits)
    ∙ either_choice (has_cell (get_or old at none) space address) (same_space of space && is_in_run first (length part) address)
    (Some (get_or (with_part (get_or old at none).bytes (first - (get_or old at none).first) part) (address - (get_or old at none).first) 0))
    (option_map (λ old. get_or part (address - first) 0) (cells_of old space address)) (cells_of old space address)
    (λ has reach.
    let there = in_reach (same_space of space) first (length part) address reach in
    let place : address - (get_or old at none).first - (first - (get_or old at none).first) ≡ address - first = omega (arith, here.1, there.1) in
    ap Some (part_in (get_or old at none).bytes (first - (get_or old at none).first) part (address - (get_or old at none).first) fits (omega (arith, here.1, there.1)) (omega (arith, here.1, there.2))
    ∙ ap (λ n. get_or part n 0) place)
    ∙ sym (ap (option_map (λ old. get_or part (address - first) 0)) (cells_at old at none space address all had.within has)))
    (λ has reach.
    let there = has_parts (same_space (get_or old at none).space space) (get_or old at none).first (length (get_or old at none).bytes) address has in
    let same = same_through (get_or old at none).space of space here.0 there.0 in
    let apart = out_of_reach first (length part) address (omega (arith, there.2)) (ap (λ b. b && is_in_run first (length part) address) (sym same) ∙ reach) in
    ap Some (part_out (get_or old at none).bytes (first - (get_or old at none).first) part (address - (get_or old at none).first) fits
    (⊎_elim (λ before. inl (omega (arith, here.1, there.1))) (λ past. inr (omega (arith, here.1, there.1))) apart))
    ∙ sym (cells_at old at none space address all had.within has))
    (λ reach.
    let there = in_reach (same_space of space) first (length part) address reach in
    has_from_parts (same_space (get_or old at none).space space) (get_or old at none).first (length (get_or old at none).bytes) address
    (same_back (get_or old at none).space of space here.0 there.0) (omega (arith, here.1, there.1)) (omega (arith, here.1, there.2)))
    ∙ sym (both_choices (same_space of space) (is_in_run first (length part) address)
    (option_map (λ old. get_or part (address - first) 0) (cells_of old space address)) (cells_of old space address))

-- the cells after a part was put
pub put_cells : (old new : List CellRun) (at : ℕ) (space : Space) (address : ℕ) (part : List ℕ) → AreRuns old → HasCellAt old space address at → IsPutAt old at address part new → AreSame (cells_of new) (with_bytes_at (cells_of old) space address part)
put_cells old new at of first part all had put =
    let no_run : CellRun = record { space = Memory; first = 0; bytes = [] } in
    let was = put no_run in
    λ space address.
    ap (λ runs. cells_of runs space address) was.1
    ∙ put_cell old at no_run of first part space address all had was.0

-- the cells after the first so many of some bytes were written from an address on
abbrev pub with_front : Cells → Space → ℕ → ℕ → List ℕ → Cells
with_front cells of first count bytes space address =
    cond (same_space of space) (cond (is_in_run first count address) (option_map (λ old. get_or bytes (address - first) 0) (cells space address)) (cells space address)) (cells space address)

-- one byte more, in one space
front_next : (old mid new : Option ℕ) (first step address byte : ℕ) (bytes : List ℕ) → byte ≡ get_or bytes step 0 → mid ≡ cond (is_in_run first step address) (option_map (λ old. get_or bytes (address - first) 0) old) old → new ≡ cond (is_in_run (first + step) 1 address) (option_map (λ old. get_or (byte ∷ []) (address - (first + step)) 0) mid) mid → new ≡ cond (is_in_run first (step + 1) address) (option_map (λ old. get_or bytes (address - first) 0) old) old
front_next old mid new first step address byte bytes is before now = grind (arith, nat_tests)

-- one byte more
front_more : (same : Bool) (old mid new : Option ℕ) (first step address byte : ℕ) (bytes : List ℕ) → byte ≡ get_or bytes step 0 → mid ≡ cond same (cond (is_in_run first step address) (option_map (λ old. get_or bytes (address - first) 0) old) old) old → new ≡ cond same (cond (is_in_run (first + step) 1 address) (option_map (λ old. get_or (byte ∷ []) (address - (first + step)) 0) mid) mid) mid → new ≡ cond same (cond (is_in_run first (step + 1) address) (option_map (λ old. get_or bytes (address - first) 0) old) old) old
front_more false old mid new first step address byte bytes is before now = now ∙ before
front_more true old mid new first step address byte bytes is before now = front_next old mid new first step address byte bytes is before now

pub front_steps : (old mid new : Cells) (of : Space) (first step byte : ℕ) (bytes : List ℕ) → byte ≡ get_or bytes step 0 → AreSame mid (with_front old of first step bytes) → AreSame new (with_bytes_at mid of (first + step) (byte ∷ [])) → AreSame new (with_front old of first (step + 1) bytes)
front_steps old mid new of first step byte bytes is before now space address =
    front_more (same_space of space) (old space address) (mid space address) (new space address) first step address byte bytes is (before space address) (now space address)

-- no byte yet
none_yet : (now : Option ℕ) (first address : ℕ) (f : ℕ → ℕ) → now ≡ cond (is_in_run first 0 address) (option_map f now) now
none_yet now first address f = grind (arith, nat_tests)

front_one : (same : Bool) (now : Option ℕ) (first address : ℕ) (f : ℕ → ℕ) → now ≡ cond same (cond (is_in_run first 0 address) (option_map f now) now) now
front_one false now first address f = refl
front_one true now first address f = none_yet now first address f

pub front_none : (cells : Cells) (of : Space) (first : ℕ) (bytes : List ℕ) → AreSame cells (with_front cells of first 0 bytes)
front_none cells of first bytes space address = front_one (same_space of space) (cells space address) first address (λ old. get_or bytes (address - first) 0)

-- all of them
pub front_all : (old new : Cells) (of : Space) (first n : ℕ) (bytes : List ℕ) → length bytes ≡ n → AreSame new (with_front old of first n bytes) → AreSame new (with_bytes_at old of first bytes)
front_all old new of first n bytes long same space address =
    same space address ∙ ap (λ n. with_front old of first n bytes space address) (sym long)

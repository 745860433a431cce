-- The laws of a map.
use Rattle.std.proofs.Common.{◌≡◌, ◌≤◌, ◌<◌, ℕ, zero, suc, max, true, false, not, ◌&&◌, ltb, leb, List, [], ◌∷◌, ◌++◌, map, length, get_or, take, Option, None, refl, sym, ap, ◌∙◌, subst, arith, ⊎_elim, add-one}
use Rattle.std.proofs.lemmas.Bool.{cases_Bool, cases_lt, both_ways, and_parts, leb-true, ltb-true}
use Rattle.std.proofs.lemmas.List.{map-append, get_or-map, get_or-take, take_more, take_all, length-map, length-take}
use Rattle.apei_base.specs.Bus.{same_space}
use Rattle.apei_base.specs.declared.region.Space.{Space}
use Rattle.apei_base.specs.declared.region.Space.TheVariants.{Memory, Port}
use Rattle.apei_base.specs.declared.gas.Gas.{Gas}
use Rattle.apei_hest.specs.Source.{limit_of}
use Rattle.apei_hest.specs.declared.source.Ghes.{Ghes}
use Rattle.apei_einj.specs.declared.entry.Entry.{Entry}
use Rattle.fw_map.specs.Areas.{AreAreasOf, IsNarrow, lengths_of, limits_of, trigger_areas, trigger_lengths}
use Rattle.fw_map.specs.Map.{IsMapOf, IsRefusedWith, all_areas}
use Rattle.fw_map.specs.Overlap.{is_injection, clash, AreApart}
use Rattle.fw_map.specs.Placement.{area_at, place_at, IsLowest, IsPlaced, ArePlaced}
use Rattle.fw_map.specs.Registers.{runs_of}
use Rattle.fw_map.specs.Runs.{end_of, has_cell, shares, is_taken, HaveCommonCell}
use Rattle.fw_map.specs.declared.error.FwError.{FwError}
use Rattle.fw_map.specs.declared.error.FwError.TheVariants.{Overlap, Room, Narrow, OutOfMemory}
use Rattle.fw_map.specs.declared.error.Owner.{Owner}
use Rattle.fw_map.specs.declared.error.Owner.TheVariants.{Source, Injection}
use Rattle.fw_map.specs.declared.map.Map.{Map}
use Rattle.fw_map.specs.declared.run.Register.{Register}
use Rattle.fw_map.specs.declared.run.Run.{Run}
use Rattle.fw_map.proofs.ApartLemmas.{free_of_both, free_of_each, and_true}
use Rattle.fw_map.proofs.OverlapLemmas.{lowest_shared}
use Rattle.fw_map.proofs.PlaceLemmas.{shares_from}

-- two spaces that are one with a third
same_third : (one other third : Space) → same_space one third ≡ true → same_space other third ≡ true → same_space one other ≡ true
same_third Memory Memory third is also = refl
same_third Memory Port Memory is also = also
same_third Memory Port Port is also = is
same_third Port Memory Memory is also = is
same_third Port Memory Port is also = also
same_third Port Port third is also = refl

-- a cell of a run
pub record Has (run : Run) (space : Space) (address : ℕ) : Type 0 where
  pub space_is : same_space run.space space ≡ true
  pub from : run.first ≤ address
  pub to : address < end_of run

has : (run : Run) (space : Space) (address : ℕ) → has_cell run space address ≡ true → Has run space address
has run space address is =
    let both = and_parts (same_space run.space space && leb run.first address) (ltb address (end_of run)) is in
    let front = and_parts (same_space run.space space) (leb run.first address) both.0 in
    record { space_is = front.0; from = leb-true run.first address front.1; to = ltb-true address (end_of run) both.1 }

pub common_from : (one other : Run) → shares one other ≡ true → HaveCommonCell one other
common_from one other is =
    let cell = lowest_shared one other is in
    (one.space, max one.first other.first, cell.one_has, cell.other_has)

pub shares_common : (one other : Run) → HaveCommonCell one other → shares one other ≡ true
shares_common one other cell =
    let here = has one cell.0 cell.1 cell.2 in
    let there = has other cell.0 cell.1 cell.3 in
    let from = here.from in
    let to = here.to in
    let from' = there.from in
    let to' = there.to in
    shares_from one other (record { space = same_third one.space other.space cell.0 here.space_is there.space_is; in_one = omega arith; in_other = omega arith })

-- owners that are both the injection table are one
both_are : (one other : Owner) → (is_injection one && is_injection other) ≡ true → one ≡ other
both_are Injection Injection is = refl
both_are Injection (Source id) is = absurd (both_ways false refl is)
both_are (Source id) other is = absurd (both_ways false refl is)

-- registers of two owners that do not clash share no cell
pub apart_owners : (one other : Register) → clash one other ≡ false → (one.owner ≡ other.owner → ⊥) → shares one.run other.run ≡ false
apart_owners one other free differ =
    ⊎_elim
    (λ both. absurd (differ (both_are one.owner other.owner both)))
    (λ not_both. and_true (shares one.run other.run) (sym (ap (λ b. shares one.run other.run && not b) not_both) ∙ free))
    (cases_Bool (is_injection one.owner && is_injection other.owner))

-- nothing is in the way of an area at a place in a list
free_there : (runs areas : List Run) (k : ℕ) (none : Run) → ArePlaced runs areas → k < length areas → is_taken (runs ++ take k areas) (get_or areas k none) ≡ false
free_there runs areas k none placed below =
    let one = placed k none below in
    subst (λ area. is_taken (runs ++ take k areas) area ≡ false) (sym one.1) one.2.free

pub apart_register : (registers : List Register) (areas : List Run) (i j : ℕ) (no_register : Register) (no_area : Run) → ArePlaced (runs_of registers) areas → i < length registers → j < length areas
    → shares (get_or registers i no_register).run (get_or areas j no_area) ≡ false
apart_register registers areas i j no_register no_area placed within below =
    let free = (free_of_both (runs_of registers) (take j areas) (get_or areas j no_area) (free_there (runs_of registers) areas j no_area placed below)).0 in
    let long : length (runs_of registers) ≡ length registers = length-map registers (λ (register : Register). register.run) in
    subst (λ run. shares run (get_or areas j no_area) ≡ false) (get_or-map (λ (register : Register). register.run) registers i no_register no_area within)
    (free_of_each (runs_of registers) (get_or areas j no_area) i no_area free (omega arith))

pub apart_areas : (runs areas : List Run) (i j : ℕ) (none : Run) → ArePlaced runs areas → i < j → j < length areas → shares (get_or areas i none) (get_or areas j none) ≡ false
apart_areas runs areas i j none placed less below =
    let free = (free_of_both runs (take j areas) (get_or areas j none) (free_there runs areas j none placed below)).1 in
    let within : i < length (take j areas) = omega (arith, length-take j areas) in
    subst (λ run. shares run (get_or areas j none) ≡ false) (get_or-take j areas i none less) (free_of_each (take j areas) (get_or areas j none) i none free within)

-- there is one lowest place
not_lower : (runs : List Run) (bytes one other : ℕ) → IsLowest runs bytes one → IsLowest runs bytes other → one < other → ⊥
not_lower runs bytes one other first second less = both_ways (is_taken runs (area_at bytes one)) first.free (second.lower one less)

pub lowest_once : (runs : List Run) (bytes one other : ℕ) → IsLowest runs bytes one → IsLowest runs bytes other → one ≡ other
lowest_once runs bytes one other first second =
    ⊎_elim
    (λ less. absurd (not_lower runs bytes one other first second less))
    (λ from. ⊎_elim
    (λ more. absurd (not_lower runs bytes other one second first more))
    (λ upto. omega arith)
    (cases_lt other one))
    (cases_lt one other)

placed_once : (runs : List Run) (one other : Run) → one.bytes ≡ other.bytes → IsPlaced runs one → IsPlaced runs other → one ≡ other
placed_once runs one other same first second =
    first.1
    ∙ ap (λ n. area_at n first.0) same
    ∙ ap (area_at other.bytes) (lowest_once runs other.bytes first.0 second.0 (subst (λ n. IsLowest runs n first.0) same first.2) second.2)
    ∙ sym second.1

-- areas of the same lengths begin alike
fronts : (runs xs ys : List Run) (n : ℕ) → n ≤ length xs → n ≤ length ys → ((k : ℕ) (none : Run) → k < n → (get_or xs k none).bytes ≡ (get_or ys k none).bytes)
    → ArePlaced runs xs → ArePlaced runs ys → take n xs ≡ take n ys
fronts runs xs ys zero within also same first second = refl
fronts runs xs ys (suc n) within also same first second =
    let none : Run = record { space = Memory; first = 0; bytes = 0 } in
    let before = fronts runs xs ys n (omega arith) (omega arith) (λ k no_run below. same k no_run (omega arith)) first second in
    let next = placed_once (runs ++ take n ys) (get_or xs n none) (get_or ys n none) (same n none (omega arith))
    (subst (λ front. IsPlaced (runs ++ front) (get_or xs n none)) before (first n none (omega arith))) (second n none (omega arith)) in
    subst (λ k. take k xs ≡ take k ys) (add-one n)
    (take_more xs n none (omega arith) ∙ ap (λ front. front ++ get_or xs n none ∷ []) before ∙ ap (λ area. take n ys ++ area ∷ []) next ∙ sym (take_more ys n none (omega arith)))

-- lengths at a place
bytes_at : (areas : List Run) (lengths : List ℕ) (k : ℕ) (none : Run) → lengths_of areas ≡ lengths → k < length areas → (get_or areas k none).bytes ≡ get_or lengths k 0
bytes_at areas lengths k none are below =
    sym (get_or-map (λ (area : Run). area.bytes) areas k none 0 below) ∙ ap (λ list. get_or list k 0) are

as_long : (areas : List Run) (lengths : List ℕ) → lengths_of areas ≡ lengths → length areas ≡ length lengths
as_long areas lengths are = sym (length-map areas (λ (area : Run). area.bytes)) ∙ ap length are

placed_lists : (runs xs ys : List Run) (lengths : List ℕ) → lengths_of xs ≡ lengths → lengths_of ys ≡ lengths → ArePlaced runs xs → ArePlaced runs ys → xs ≡ ys
placed_lists runs xs ys lengths one other first second =
    let long = as_long xs lengths one in
    let long' = as_long ys lengths other in
    sym (take_all (length xs) xs (omega arith))
    ∙ fronts runs xs ys (length xs) (omega arith) (omega arith) (λ k none below. bytes_at xs lengths k none one below ∙ sym (bytes_at ys lengths k none other (omega arith))) first second
    ∙ take_all (length xs) ys (omega arith)

all_lengths : (sources : List Ghes) (einj : Option (List Entry)) (map : Map) → IsMapOf sources einj map → lengths_of (all_areas map) ≡ limits_of sources ++ trigger_lengths einj
all_lengths sources einj map is =
    map-append (λ (area : Run). area.bytes) map.areas.items (trigger_areas map.trigger)
    ∙ ap (λ front. front ++ lengths_of (trigger_areas map.trigger)) is.areas.limits
    ∙ ap (λ back. limits_of sources ++ back) is.trigger

pub one_map : (sources : List Ghes) (einj : Option (List Entry)) (one other : Map) → IsMapOf sources einj one → IsMapOf sources einj other → all_areas one ≡ all_areas other
one_map sources einj one other first second =
    placed_lists (runs_of one.registers.items) (all_areas one) (all_areas other) (limits_of sources ++ trigger_lengths einj) (all_lengths sources einj one first) (all_lengths sources einj other second)
    first.placed (subst (λ registers. ArePlaced (runs_of registers) (all_areas other)) (second.registers ∙ sym first.registers) second.placed)

-- the limits of the first sources
front_limit : (sources : List Ghes) (n k : ℕ) (none : Ghes) → k < n → n < length sources → get_or (limits_of (take n sources)) k 0 ≡ get_or (limits_of sources) k 0
front_limit sources n k none less within =
    let long : k < length (take n sources) = omega (arith, length-take n sources) in
    get_or-map limit_of (take n sources) k none 0 long
    ∙ ap limit_of (get_or-take n sources k none less)
    ∙ sym (get_or-map limit_of sources k none 0 (omega arith))

-- no source of a map is too narrow
not_narrow : (runs : List Run) (sources : List Ghes) (areas : List Run) (id : ℕ) (no_source : Ghes) → AreAreasOf runs sources areas → IsNarrow runs sources id → ⊥
not_narrow runs sources areas id no_source found narrow =
    let none : Run = record { space = Memory; first = 0; bytes = 0 } in
    let within = narrow.within in
    let long : length areas ≡ length sources = as_long areas (limits_of sources) found.limits ∙ length-map sources limit_of in
    let below : length narrow.areas < length areas = omega arith in
    let front : narrow.areas ≡ take (length narrow.areas) areas =
    sym (take_all (length narrow.areas) narrow.areas (omega arith))
    ∙ fronts runs narrow.areas areas (length narrow.areas) (omega arith) (omega arith)
    (λ k no_run less. bytes_at narrow.areas (limits_of (take (length narrow.areas) sources)) k no_run narrow.before.limits less
    ∙ front_limit sources (length narrow.areas) k no_source less within
    ∙ sym (bytes_at areas (limits_of sources) k no_run found.limits (omega arith)))
    narrow.before.placed found.placed in
    let there = found.placed (length narrow.areas) none below in
    let bytes : (get_or areas (length narrow.areas) none).bytes ≡ limit_of (get_or sources (length narrow.areas) no_source) =
    bytes_at areas (limits_of sources) (length narrow.areas) none found.limits below ∙ get_or-map limit_of sources (length narrow.areas) no_source 0 within in
    let too = narrow.narrow no_source in
    let same : there.0 ≡ narrow.number = lowest_once (runs ++ take (length narrow.areas) areas) (limit_of (get_or sources (length narrow.areas) no_source)) there.0 narrow.number
    (subst (λ n. IsLowest (runs ++ take (length narrow.areas) areas) n there.0) bytes there.2)
    (subst (λ list. IsLowest (runs ++ list) (limit_of (get_or sources (length narrow.areas) no_source)) narrow.number) front too.lowest) in
    let first : (get_or areas (length narrow.areas) none).first ≡ place_at there.0 = ap (λ (area : Run). area.first) there.1 in
    let fits = found.fit (length narrow.areas) no_source none below in
    let high = too.too_high in
    omega arith

-- a source
no_gas : Gas
no_gas = record { space = 0; bit_width = 0; bit_offset = 0; access = 0; address = 0 }

no_ghes : Ghes
no_ghes = record {
  id = 0;
  at = 0;
  related = 0;
  flags = 0;
  enabled = false;
  records = 0;
  sections = 0;
  raw = 0;
  status = no_gas;
  notify = record { kind = 0; length = 0; write_enable = 0; poll = 0; vector = 0; poll_threshold = 0; poll_window = 0; error_threshold = 0; error_window = 0 };
  block_length = 0;
  ack = None;
}

pub not_refused : (sources : List Ghes) (einj : Option (List Entry)) (map : Map) (error : FwError) → IsMapOf sources einj map → IsRefusedWith sources einj error → error ≡ OutOfMemory
not_refused sources einj map (Overlap first second space address) is found =
    let none : Register = record { owner = Injection; run = record { space = Memory; first = 0; bytes = 0 } } in
    let apart = subst AreApart is.registers is.apart in
    absurd (both_ways true (sym (found.2.clashes none) ∙ apart found.0 found.1 none found.2.order found.2.within) refl)
not_refused sources einj map Room is found = absurd found
not_refused sources einj map OutOfMemory is found = refl
not_refused sources einj map (Narrow id) is found =
    absurd (not_narrow (runs_of map.registers.items) sources map.areas.items id no_ghes is.areas (subst (λ registers. IsNarrow (runs_of registers) sources id) (sym is.registers) found.1))

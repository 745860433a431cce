-- The sources of a map are told apart.
use Rattle.std.proofs.Common.{◌≡◌, ◌≤◌, ◌<◌, ◌/◌, ℕ, zero, suc, Bool, true, false, ◌&&◌, ◌==◌, List, [], ◌∷◌, ◌++◌, length, get_or, take, Option, Some, None, refl, sym, ap, ◌∙◌, subst, arith}
use Rattle.std.proofs.lemmas.Bool.{both_ways, and_parts, or_parts, false_from_ne_true, eqb-true}
use Rattle.std.proofs.lemmas.List.{append_assoc, map-append, get_or-map, length-map}
use Rattle.std.proofs.lemmas.List.Folds.{list_any-append, list_any_at}
use Rattle.std.specs.List.{flat_map, AllByRecursion}
use Rattle.std.specs.Option.{IfSome, option_map}
use Rattle.apei_base.specs.Bus.{Reach, same_space, same_reach}
use Rattle.apei_base.specs.Firmware.{is_reach}
use Rattle.apei_base.specs.declared.region.Space.{Space}
use Rattle.apei_base.specs.declared.region.Space.TheVariants.{Memory, Port}
use Rattle.apei_hest.specs.Sound.{IsSound}
use Rattle.apei_hest.specs.Source.{limit_of}
use Rattle.apei_hest.specs.declared.source.Ack2.{Ack2}
use Rattle.apei_hest.specs.declared.source.Ghes.{Ghes}
use Rattle.fw_map.specs.Apart.{gas_reach, IsToldApart, AreToldApart}
use Rattle.fw_map.specs.Areas.{AreAreasOf, reach_of_status}
use Rattle.fw_map.specs.Overlap.{AreApart}
use Rattle.fw_map.specs.Placement.{place_at}
use Rattle.fw_map.specs.Registers.{gas_run, ack_registers, source_registers, runs_of}
use Rattle.fw_map.specs.Runs.{shares, is_taken}
use Rattle.fw_map.specs.declared.error.Owner.TheVariants.{Source}
use Rattle.fw_map.specs.declared.run.Register.{Register}
use Rattle.fw_map.specs.declared.run.Run.{Run}
use Rattle.fw_map.proofs.PlaceLemmas.{shares_from}
use Rattle.fw_map.proofs.RegisterLemmas.{each_at}
use Rattle.fw_map.proofs.WidthLemmas.{access_bounds}

-- what is taken by neither of two lists
pub free_of_both : (one other : List Run) (area : Run) → is_taken (one ++ other) area ≡ false → (is_taken one area ≡ false) × (is_taken other area ≡ false)
free_of_both one other area free =
    or_parts (is_taken one area) (is_taken other area) (sym (list_any-append (λ run. shares run area) one other) ∙ free)

-- a run at a place is not in the way where nothing is taken
pub free_of_each : (runs : List Run) (area : Run) (k : ℕ) (none : Run) → is_taken runs area ≡ false → k < length runs → shares (get_or runs k none) area ≡ false
free_of_each runs area k none free within =
    false_from_ne_true (shares (get_or runs k none) area) (λ is. both_ways (is_taken runs area) free (list_any_at (λ run. shares run area) runs k none within is))

-- an area that shares no cell with the registers of a source
abbrev pub IsFree : Ghes → Run → Type 0
IsFree ghes area = (shares (gas_run ghes.status) area ≡ false) × IfSome ghes.ack (λ ack. shares (gas_run ack.register) area ≡ false)

free_ack : (id : ℕ) (ack : Option Ack2) (area : Run) → is_taken (runs_of (ack_registers id ack)) area ≡ false → IfSome ack (λ rule. shares (gas_run rule.register) area ≡ false)
free_ack id None area free = tt
free_ack id (Some rule) area free = (or_parts (shares (gas_run rule.register) area) false free).0

free_either : (ghes : Ghes) (more : List Ghes) (area : Run) (k : ℕ) (none : Ghes) → is_taken (runs_of (source_registers ghes)) area ≡ false
    → ((j : ℕ) → j < length more → IsFree (get_or more j none) area) → k < length (ghes ∷ more) → IsFree (get_or (ghes ∷ more) k none) area
free_either ghes more area zero none own others within =
    let both = or_parts (shares (gas_run ghes.status) area) (is_taken (runs_of (ack_registers ghes.id ghes.ack)) area) own in
    (both.0, free_ack ghes.id ghes.ack area both.1)
free_either ghes more area (suc k) none own others within = others k (omega arith)

pub free_at : (sources : List Ghes) (area : Run) (k : ℕ) (none : Ghes) → is_taken (runs_of (flat_map source_registers sources)) area ≡ false → k < length sources → IsFree (get_or sources k none) area
free_at [] area k none free within = absurd (omega arith)
free_at (ghes ∷ more) area k none free within =
    let both = free_of_both (runs_of (source_registers ghes)) (runs_of (flat_map source_registers more)) area
    (sym (ap (λ runs. is_taken runs area) (map-append (λ (register : Register). register.run) (source_registers ghes) (flat_map source_registers more))) ∙ free) in
    free_either ghes more area k none both.0 (λ j below. free_at more area j none both.1 below) within

-- the registers of one source apart
abbrev pub AreOwnApart : Ghes → Type 0
AreOwnApart ghes = IfSome ghes.ack (λ ack. shares (gas_run ghes.status) (gas_run ack.register) ≡ false)

apart_tail : (register : Register) (more : List Register) → AreApart (register ∷ more) → AreApart more
apart_tail register more apart i j none less below = apart (suc i) (suc j) none (omega arith) (omega arith)

apart_behind : (front more : List Register) → AreApart (front ++ more) → AreApart more
apart_behind [] more apart = apart
apart_behind (register ∷ front) more apart = apart_behind front more (apart_tail register (front ++ more) apart)

-- a test beside one that holds
pub and_true : (b : Bool) → (b && true) ≡ false → b ≡ false
and_true true is = is
and_true false is = refl

own_first : (id : ℕ) (status : Run) (ack : Option Ack2) (more : List Register) → AreApart ((record { owner = Source id; run = status } ∷ ack_registers id ack) ++ more) → IfSome ack (λ rule. shares status (gas_run rule.register) ≡ false)
own_first id status None more apart = tt
own_first id status (Some rule) more apart =
    and_true (shares status (gas_run rule.register)) (apart 0 1 (record { owner = Source id; run = status }) (omega arith) (omega arith))

pub own_at : (sources : List Ghes) (others : List Register) (k : ℕ) (none : Ghes) → AreApart (flat_map source_registers sources ++ others) → k < length sources → AreOwnApart (get_or sources k none)
own_at [] others k none apart within = absurd (omega arith)
own_at (ghes ∷ more) others zero none apart within =
    own_first ghes.id (gas_run ghes.status) ghes.ack (flat_map source_registers more ++ others) (subst AreApart (append_assoc (source_registers ghes) (flat_map source_registers more) others) apart)
own_at (ghes ∷ more) others (suc k) none apart within =
    own_at more others k none (apart_behind (source_registers ghes) (flat_map source_registers more ++ others) (subst AreApart (append_assoc (source_registers ghes) (flat_map source_registers more) others) apart)) (omega arith)

-- two registers that are reached alike
pub record Alike (one other : Reach) : Type 0 where
  pub space : same_space one.space other.space ≡ true
  pub address : one.address ≡ other.address
  pub width : one.width ≡ other.width

alike : (one other : Reach) → same_reach one other ≡ true → Alike one other
alike one other is =
    let both = and_parts (same_space one.space other.space && (one.address == other.address)) (one.width == other.width) is in
    let front = and_parts (same_space one.space other.space) (one.address == other.address) both.0 in
    record { space = front.0; address = eqb-true one.address other.address front.1; width = eqb-true one.width other.width both.1 }

-- two spaces that are one, the other way round
pub same_flip : (one other : Space) → same_space one other ≡ true → same_space other one ≡ true
same_flip Memory Memory is = refl
same_flip Memory Port is = is
same_flip Port Memory is = is
same_flip Port Port is = refl

memory_is : (space : Space) → space ≡ Memory → same_space space Memory ≡ true
memory_is space is = ap (λ one. same_space one Memory) is

-- a read ack register that is not in the area is not the block status
not_block : (ack : Option Ack2) (area : Run) → area.space ≡ Memory → 20 ≤ area.bytes → IfSome ack (λ rule. shares (gas_run rule.register) area ≡ false)
    → is_reach (option_map (λ rule. gas_reach rule.register) ack) (record { space = Memory; address = area.first; width = 32 }) ≡ false
not_block None area memory long free = refl
not_block (Some rule) area memory long free =
    false_from_ne_true (same_reach (gas_reach rule.register) (record { space = Memory; address = area.first; width = 32 })) (λ is.
    let same = alike (gas_reach rule.register) (record { space = Memory; address = area.first; width = 32 }) is in
    let here = same.address in
    let most = (access_bounds rule.register).0 in
    both_ways (shares (gas_run rule.register) area) free (shares_from (gas_run rule.register) area (record {
      space = subst (λ space. same_space (gas_run rule.register).space space ≡ true) (sym memory) same.space;
      in_one = omega arith;
      in_other = omega arith;
    })))

-- a read ack register apart from the status address register is another one
not_same : (status : Run) (reach : Reach) (ack : Option Ack2) → reach.space ≡ status.space → reach.address ≡ status.first → reach.width / 8 ≡ status.bytes → 1 ≤ status.bytes
    → IfSome ack (λ rule. shares status (gas_run rule.register) ≡ false) → is_reach (option_map (λ rule. gas_reach rule.register) ack) reach ≡ false
not_same status reach None space address bytes long free = refl
not_same status reach (Some rule) space address bytes long free =
    false_from_ne_true (same_reach (gas_reach rule.register) reach) (λ is.
    let same = alike (gas_reach rule.register) reach is in
    let here = same.address in
    let most = (access_bounds rule.register).0 in
    both_ways (shares status (gas_run rule.register)) free (shares_from status (gas_run rule.register) (record {
      space = same_flip (gas_run rule.register).space status.space (subst (λ other. same_space (gas_run rule.register).space other ≡ true) space same.space);
      in_one = omega arith;
      in_other = omega arith;
    })))

-- a source with its area is told apart, by what its map says
pub told_apart : (ghes : Ghes) (area : Run) (number : ℕ) → IsSound ghes → area.bytes ≡ limit_of ghes → area.space ≡ Memory → area.first ≡ place_at number → area.first < reach_of_status ghes
    → IsFree ghes area → AreOwnApart ghes → IsToldApart ghes area
told_apart ghes area number sound limit memory at fits free own =
    let room = sound.room in
    let bounds = access_bounds ghes.status in
    let top = bounds.1 in
    let long : 20 ≤ area.bytes = omega (arith, limit, room) in
    record {
      limit = limit;
      memory = memory;
      placed = λ is. absurd (omega arith);
      ends = omega (arith, limit, top, fits, at);
      fits = fits;
      status = free.0;
      ack = free.1;
      registers = own;
      not_block_status = not_block ghes.ack area memory long free.1;
      not_status = not_same (gas_run ghes.status) (gas_reach ghes.status) ghes.ack refl refl refl bounds.0 own;
    }

-- the sources of a map are told apart
pub all_told_apart : (sources : List Ghes) (others registers : List Register) (areas : List Run) → AllByRecursion IsSound sources → registers ≡ flat_map source_registers sources ++ others → AreApart registers
    → AreAreasOf (runs_of registers) sources areas → AreToldApart sources areas
all_told_apart sources others registers areas sound are apart found =
    let no_run : Run = record { space = Memory; first = 0; bytes = 0 } in
    let as_many : length areas ≡ length sources = sym (length-map areas (λ (area : Run). area.bytes)) ∙ ap length found.limits ∙ length-map sources limit_of in
    record {
      as_many = as_many;
      each = λ k no_source no_area within.
          let below : k < length areas = omega arith in
          let placed = found.placed k no_area below in
          let front = (free_of_both (runs_of registers) (take k areas) (get_or areas k no_area) (subst (λ area. is_taken (runs_of registers ++ take k areas) area ≡ false) (sym placed.1) placed.2.free)).0 in
          let own = (free_of_both (runs_of (flat_map source_registers sources)) (runs_of others) (get_or areas k no_area)
          (sym (ap (λ runs. is_taken runs (get_or areas k no_area)) (ap runs_of are ∙ map-append (λ (register : Register). register.run) (flat_map source_registers sources) others)) ∙ front)).0 in
          told_apart (get_or sources k no_source) (get_or areas k no_area) placed.0 (each_at IsSound sources k no_source within sound)
          (sym (get_or-map (λ (area : Run). area.bytes) areas k no_area 0 below) ∙ ap (λ list. get_or list k 0) found.limits ∙ get_or-map limit_of sources k no_source 0 within)
          (ap (λ (area : Run). area.space) placed.1) (ap (λ (area : Run). area.first) placed.1) (found.fit k no_source no_area below)
          (free_at sources (get_or areas k no_area) k no_source own within)
          (own_at sources others k no_source (subst AreApart are apart) within);
    }

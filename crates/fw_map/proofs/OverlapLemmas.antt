-- Registers that clash, and those that do not.
use Rattle.std.proofs.Common.{◌≡◌, ◌≤◌, ◌<◌, ◌+◌, ℕ, max, min, true, false, not, ◌&&◌, ltb, leb, List, length, get_or, take, Some, None, refl, sym, ap, ◌∙◌, subst, arith, ⊎_elim}
use Rattle.std.proofs.lemmas.Bool.{cases_lt, cases_eq, and_parts, and_from, and_right, lt-ltb, leb-true, le-leb}
use Rattle.std.proofs.lemmas.List.{get_or-take, get_or_default, length-take}
use Rattle.apei_base.specs.Bus.{same_space}
use Rattle.apei_base.specs.declared.region.Space.{Space}
use Rattle.apei_base.specs.declared.region.Space.TheVariants.{Memory, Port}
use Rattle.fw_map.specs.Runs.{end_of, has_cell, shares}
use Rattle.fw_map.specs.Overlap.{is_injection, clash, AreApartBelow, IsFirstClash, IsFirstOf, NamesError, IsLowestShared, IsOverlapError, Overlaps}
use Rattle.fw_map.specs.declared.error.Owner.TheVariants.{Injection}
use Rattle.fw_map.specs.declared.error.FwError.{FwError}
use Rattle.fw_map.specs.declared.error.FwError.TheVariants.{Overlap, Room, Narrow, OutOfMemory}
use Rattle.fw_map.specs.declared.run.Register.{Register}
use Rattle.fw_map.specs.declared.run.Run.{Run}
use Rattle.fw_map.proofs.PlaceLemmas.{meets}

-- a space is itself
same_itself : (space : Space) → same_space space space ≡ true
same_itself Memory = refl
same_itself Port = refl

-- two spaces that are the same, the other way round
same_back : (one other : Space) → same_space one other ≡ true → same_space other one ≡ true
same_back Memory Memory is = refl
same_back Memory Port is = is
same_back Port Memory is = is
same_back Port Port is = refl

has_from : (run : Run) (space : Space) (address : ℕ) → same_space run.space space ≡ true → run.first ≤ address → address < end_of run → has_cell run space address ≡ true
has_from run space address same from to =
    and_from (same_space run.space space && leb run.first address) (ltb address (end_of run))
    (and_from (same_space run.space space) (leb run.first address) same (le-leb run.first address from)) (lt-ltb address (end_of run) to)

has_first : (run : Run) (space : Space) (address : ℕ) → has_cell run space address ≡ true → run.first ≤ address
has_first run space address has =
    let both = and_parts (same_space run.space space && leb run.first address) (ltb address (end_of run)) has in
    leb-true run.first address (and_parts (same_space run.space space) (leb run.first address) both.0).1

-- the lowest cell of two runs that share one
pub lowest_shared : (one other : Run) → shares one other ≡ true → IsLowestShared one other one.space (max one.first other.first)
lowest_shared one other is =
    let meet = meets one other is in
    record {
      one_has = has_from one one.space (max one.first other.first) (same_itself one.space) (omega arith) meet.in_one;
      other_has = has_from other one.space (max one.first other.first) (same_back one.space other.space meet.space) (omega arith) meet.in_other;
      lowest = λ lower here there.
          let from = has_first one one.space lower here in
          let to = has_first other one.space lower there in
          omega arith;
    }

-- registers that clash share a cell
pub clash_shares : (one other : Register) → clash one other ≡ true → shares one.run other.run ≡ true
clash_shares one other is = (and_parts (shares one.run other.run) (not (is_injection one.owner && is_injection other.owner)) is).0

-- two registers of the injection table do not clash
pub both_injection : (one other : Register) → is_injection one.owner ≡ true → is_injection other.owner ≡ true → clash one other ≡ false
both_injection one other is also =
    and_right (shares one.run other.run) (not (is_injection one.owner && is_injection other.owner))
    (ap not (and_from (is_injection one.owner) (is_injection other.owner) is also))

-- one register more that clashes with none before it
pub apart_more : (registers : List Register) (n : ℕ) → AreApartBelow registers n → ((i : ℕ) (none : Register) → i < n → clash (get_or registers i none) (get_or registers n none) ≡ false) → AreApartBelow registers (n + 1)
apart_more registers n apart new i j none less below =
    ⊎_elim
    (λ here. subst (λ k. clash (get_or registers i none) (get_or registers k none) ≡ false) (sym here) (new i none (omega arith)))
    (λ else. apart i j none less (omega arith))
    (cases_eq j n)

-- a register behind those of the sources that clashes with none of these clashes with none before it
pub new_apart : (registers : List Register) (sources n : ℕ) → n < length registers
    → ((k : ℕ) (none : Register) → sources ≤ k → k < length registers → is_injection (get_or registers k none).owner ≡ true)
    → ((k : ℕ) (none : Register) → k < min n sources → clash (get_or registers k none) (get_or registers n none) ≡ false)
    → (i : ℕ) (none : Register) → i < n → clash (get_or registers i none) (get_or registers n none) ≡ false
new_apart registers sources n within injection tried i none below =
    ⊎_elim
    (λ own. tried i none (omega arith))
    (λ past. both_injection (get_or registers i none) (get_or registers n none) (injection i none past (omega arith)) (injection n none (omega arith) within))
    (cases_lt i sources)

-- none of the first registers clashes with a later one
pub none_before : (registers : List Register) (n sources m place : ℕ) (later : Register) → m ≡ min place sources → place ≡ n → n < length registers
    → ((none : Register) → later ≡ get_or registers n none) → IsFirstOf (take m registers) later None
    → (k : ℕ) (none : Register) → k < min n sources → clash (get_or registers k none) (get_or registers n none) ≡ false
none_before registers n sources m place later cut here within is tried k none below =
    let short : k < length (take m registers) = omega (arith, length-take m registers) in
    let first : k < m = omega arith in
    subst (λ other. clash (get_or registers k none) other ≡ false) (is none)
    (subst (λ one. clash one later ≡ false) (get_or-take m registers k none first) (tried k none short))

-- the first of these that clashes with the later one
pub found_clash : (registers : List Register) (n sources m first : ℕ) (later : Register) → m ≡ min n sources → n < length registers
    → ((none : Register) → later ≡ get_or registers n none) → AreApartBelow registers n → IsFirstOf (take m registers) later (Some first)
    → IsFirstClash registers first n
found_clash registers n sources m first later cut within is apart found =
    let below : first < m = let short = found.0 in omega (arith, length-take m registers) in
    record {
      order = omega arith;
      within = within;
      clashes = λ none. subst (λ other. clash (get_or registers first none) other ≡ true) (is none)
          (subst (λ one. clash one later ≡ true) (get_or-take m registers first none below) (found.1 none));
      apart = apart;
      first = λ k none less. subst (λ other. clash (get_or registers k none) other ≡ false) (is none)
          (subst (λ one. clash one later ≡ false) (get_or-take m registers k none (omega arith)) (found.2 k none less));
    }

-- an overlap that names two registers of the first so many
pub names_found : (registers : List Register) (n m first : ℕ) (earlier later none : Register) (error : FwError) → first < m → first < length registers
    → n < length registers → earlier ≡ get_or (take m registers) first earlier → later ≡ get_or registers n later → NamesError earlier later error
    → NamesError (get_or registers first none) (get_or registers n none) error
names_found registers n m first earlier later none error below within there is also names =
    subst (λ other. NamesError (get_or registers first none) other error) (also ∙ get_or_default registers n later none there)
    (subst (λ one. NamesError one later error)
    (is ∙ get_or-take m registers first earlier below ∙ get_or_default registers first earlier none within) names)

-- a refusal that names an overlap is one
pub overlaps_from : (registers : List Register) (error : FwError) → IsOverlapError registers error → Overlaps registers error
overlaps_from registers (Overlap first second space address) found = found
overlaps_from registers Room found = found.3 (record { owner = Injection; run = record { space = Memory; first = 0; bytes = 0 } })
overlaps_from registers (Narrow id) found = found.3 (record { owner = Injection; run = record { space = Memory; first = 0; bytes = 0 } })
overlaps_from registers OutOfMemory found = tt

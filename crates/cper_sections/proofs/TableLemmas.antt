-- The tables of fields, and the GUIDs of the kinds.
use Rattle.std.proofs.Common.{◌≡◌, ◌≤◌, ◌<◌, ◌+◌, ℕ, zero, suc, eqb, ap, ◌∙◌, sym, Bool, true, false, cond, leb, not, ◌&&◌, List, [], ◌∷◌, filter, refl, arith, Some, None}
use Rattle.std.specs.Prelude.{All}
use Rattle.std.specs.List.{AllPairs, list_all}
use Rattle.std.specs.Str.{bytes_eq}
use Rattle.std.proofs.lemmas.Bool.{leb-true, eqb-true, eqb-false}
use Rattle.std.proofs.lemmas.List.Elements.{All-nil, All-cons}
use Rattle.std.proofs.lemmas.List.Kept.{AllPairs-cons}
use Rattle.std.proofs.lemmas.Slice.Eq.{bytes_eq-Decides}
use Rattle.uuid.proofs.OnLiterals.{uuid_on_literals}
use Rattle.cper_sections.specs.declared.kind.Kind.{Kind}
use Rattle.cper_sections.specs.declared.kind.Kind.TheVariants.{Memory, Processor, Pcie}
use Rattle.cper_sections.specs.Field.{Field, end_of}
use Rattle.cper_sections.specs.Section.{guid_of, kind_of, least_length, section_fields, late_fields, full_length, owners}

-- two tests that both pass
both : (a b : Bool) → (a && b) ≡ true → (a ≡ true) × (b ≡ true)
both true b e = (refl, e)
both false b e = cc

-- all fields begin at an offset or behind it
begin_behind : (n : ℕ) (fields : List Field) → list_all (λ field. leb n field.at) fields ≡ true → All (λ field. n ≤ field.at) fields
begin_behind n [] e = All-nil (λ field. n ≤ field.at)
begin_behind n (field ∷ fields) e =
    let passed = both (leb n field.at) (list_all (λ f. leb n f.at) fields) e in
    All-cons (λ other. n ≤ other.at) field fields (leb-true n field.at passed.0) (begin_behind n fields passed.1)

-- the test of whether each field ends before all later ones
all_apart : List Field → Bool
all_apart [] = true
all_apart (field ∷ later) = list_all (λ other. leb (end_of field) other.at) later && all_apart later

-- fields that pass it
apart_when_tested : (fields : List Field) → all_apart fields ≡ true → AllPairs (λ field later. end_of field ≤ later.at) fields
unfolding all_apart
apart_when_tested [] e = λ i j d before within. absurd (omega arith)
apart_when_tested (field ∷ later) e =
    let passed = both (list_all (λ other. leb (end_of field) other.at) later) (all_apart later) e in
    AllPairs-cons (λ first second. end_of first ≤ second.at) field later (begin_behind (end_of field) later passed.0) (apart_when_tested later passed.1)

-- no field begins in the validation number
pub behind_validation : (kind : Kind) → All (λ field. 8 ≤ field.at) (section_fields kind)
behind_validation Memory = begin_behind 8 (section_fields Memory) refl
behind_validation Processor = begin_behind 8 (section_fields Processor) refl
behind_validation Pcie = begin_behind 8 (section_fields Pcie) refl

-- no field reaches into a later one
pub apart : (kind : Kind) → AllPairs (λ field later. end_of field ≤ later.at) (section_fields kind)
unfolding all_apart
apart Memory = apart_when_tested (section_fields Memory) refl
apart Processor = apart_when_tested (section_fields Processor) refl
apart Pcie = apart_when_tested (section_fields Pcie) refl

-- a test passes at so many offsets from a first one on
passes_at : (ℕ → Bool) → ℕ → ℕ → Bool
passes_at test from zero = true
passes_at test from (suc n) = test from && passes_at test (suc from) n

passed : (test : ℕ → Bool) (from n i : ℕ) → passes_at test from n ≡ true → from ≤ i → i < from + n → test i ≡ true
unfolding passes_at
passed test from zero i e behind before = absurd (omega arith)
passed test from (suc n) i e behind before =
    let both_pass = both (test from) (passes_at test (suc from) n) e in
    let P : Bool → Type 0 = λ b. eqb from i ≡ b → test i ≡ true in
    let all : P (eqb from i) = elim (eqb from i) as P [
      | true ↦ λ here. ap test (sym (eqb-true from i here)) ∙ both_pass.0
      | false ↦ λ other. passed test (suc from) n i both_pass.1 (omega (arith, eqb-false from i other)) (omega arith)
    ] in
    all refl

-- each byte behind the validation number has one owner
pub owned : (kind : Kind) (i : ℕ) → 8 ≤ i → i < full_length kind → owners kind i ≡ 1
unfolding passes_at
owned Memory i behind before = eqb-true _ 1 (passed (λ j. eqb (owners Memory j) 1) 8 72 i refl behind before)
owned Processor i behind before = eqb-true _ 1 (passed (λ j. eqb (owners Processor j) 1) 8 184 i refl behind before)
owned Pcie i behind before = eqb-true _ 1 (passed (λ j. eqb (owners Pcie j) 1) 8 200 i refl behind before)

-- all fields end at an offset or before it
end_before : (n : ℕ) (fields : List Field) → list_all (λ field. leb (end_of field) n) fields ≡ true → All (λ field. end_of field ≤ n) fields
end_before n [] e = All-nil (λ field. end_of field ≤ n)
end_before n (field ∷ fields) e =
    let tested = both (leb (end_of field) n) (list_all (λ f. leb (end_of f) n) fields) e in
    All-cons (λ other. end_of other ≤ n) field fields (leb-true (end_of field) n tested.0) (end_before n fields tested.1)

pub within : (kind : Kind) → All (λ field. end_of field ≤ full_length kind) (section_fields kind)
within Memory = end_before 80 (section_fields Memory) refl
within Processor = end_before 192 (section_fields Processor) refl
within Pcie = end_before 208 (section_fields Pcie) refl

-- the fields that do not fit into the least bytes
pub late : (kind : Kind) → filter (λ field. not (leb (end_of field) (least_length kind))) (section_fields kind) ≡ late_fields kind
late Memory = refl
late Processor = refl
late Pcie = refl

-- a kind's own GUID names it
pub kind_of-guid_of : (kind : Kind) → kind_of (guid_of kind) ≡ Some kind
unfolding guid_of uuid_on_literals
kind_of-guid_of Memory = refl
kind_of-guid_of Processor = refl
kind_of-guid_of Pcie = refl

-- bytes that pass the test of equality are equal
bytes_eq-true : (xs ys : List ℕ) → bytes_eq xs ys ≡ true → xs ≡ ys
bytes_eq-true xs ys e = (bytes_eq-Decides xs ys).0 e

-- which GUID it was, by the three tests
guid_by : (a b c : Bool) (guid : List ℕ) (kind : Kind) → bytes_eq guid (guid_of Memory) ≡ a → bytes_eq guid (guid_of Processor) ≡ b → bytes_eq guid (guid_of Pcie) ≡ c → cond a (Some Memory) (cond b (Some Processor) (cond c (Some Pcie) None)) ≡ Some kind → guid ≡ guid_of kind
guid_by true b c guid Memory ma mb mc e = bytes_eq-true guid (guid_of Memory) ma
guid_by true b c guid Processor ma mb mc e = cc
guid_by true b c guid Pcie ma mb mc e = cc
guid_by false true c guid Memory ma mb mc e = cc
guid_by false true c guid Processor ma mb mc e = bytes_eq-true guid (guid_of Processor) mb
guid_by false true c guid Pcie ma mb mc e = cc
guid_by false false true guid Memory ma mb mc e = cc
guid_by false false true guid Processor ma mb mc e = cc
guid_by false false true guid Pcie ma mb mc e = bytes_eq-true guid (guid_of Pcie) mc
guid_by false false false guid kind ma mb mc e = cc

-- a GUID that names a kind is that kind's own
pub guid_named : (guid : List ℕ) (kind : Kind) → kind_of guid ≡ Some kind → guid ≡ guid_of kind
guid_named guid kind e = guid_by _ _ _ guid kind refl refl refl e

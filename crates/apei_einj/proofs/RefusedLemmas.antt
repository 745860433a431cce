-- Entries that are not refused.
use Rattle.std.proofs.Common.{◌≡◌, ◌<◌, ◌≤◌, ℕ, ◌+◌, ◌^◌, ◌==◌, nat_lt, Bool, true, false, if◌then◌else◌, List, [], ◌∷◌, ◌++◌, length, get_or, drop, Option, Some, None, refl, arith, drop-cons, add-one}
use Rattle.std.specs.Option.{option_or}
use Rattle.std.proofs.lemmas.Bool.Decides.{nat_tests}
use Rattle.std.proofs.lemmas.List.{drop-drop}
use Rattle.apei_base.specs.Region.{gas_refusal}
use Rattle.apei_base.specs.declared.gas.GasError.{GasError}
use Rattle.apei_einj.proofs.AnchorLemmas.{anchor_found}
use Rattle.apei_einj.specs.Anchor.{anchor_of}
use Rattle.apei_einj.specs.Sound.{fits}
use Rattle.apei_einj.specs.Refusal.{is_cut_off, entry_refusal, register_refusal, register_reason, first_refusal}
use Rattle.apei_einj.specs.declared.entry.Entry.{Entry}

-- a choice of two is none: the first is
pub none_first : {T : Type 0} (a b : Option T) → option_or a b ≡ None → a ≡ None
none_first None b is_none = refl
none_first (Some x) b is_none = cc

-- a choice of two is none: the second is
pub none_second : {T : Type 0} (a b : Option T) → option_or a b ≡ None → b ≡ None
none_second None b is_none = is_none
none_second (Some x) b is_none = cc

-- what stands behind two tests that fail
behind_tests : {T : Type 0} (one two : Bool) (a b c : Option T) → one ≡ false → two ≡ false → (if one then a else if two then b else c) ≡ None → c ≡ None
behind_tests true two a b c first second is_none = cc
behind_tests false true a b c first second is_none = cc
behind_tests false false a b c first second is_none = is_none

-- a register with no reason is not refused
no_reason : (at : ℕ) (reason : Option GasError) → register_refusal at reason ≡ None → reason ≡ None
no_reason at None is_none = refl
no_reason at (Some why) is_none = cc

-- the register of an entry that is not refused names a region, where the instruction has one
pub gas_refusal_accepted : (entry : Entry) → entry_refusal entry ≡ None → entry.instruction < 4 → gas_refusal entry.register ≡ None
gas_refusal_accepted entry is_none below =
    let first : nat_lt 4 entry.instruction ≡ false = grind (arith, nat_tests) in
    let second : (entry.instruction == 4) ≡ false = grind (arith, nat_tests) in
    let refusal = behind_tests (nat_lt 4 entry.instruction) (entry.instruction == 4) _ None (register_refusal entry.at (register_reason entry)) first second is_none in
    none_first (gas_refusal entry.register) _ (no_reason entry.at (register_reason entry) refusal)

-- among entries that are not refused the first is not
pub entry_refusal-head : (entry : Entry) (entries : List Entry) → first_refusal (entry ∷ entries) ≡ None → entry_refusal entry ≡ None
unfolding first_refusal
entry_refusal-head entry entries is_none = none_first (entry_refusal entry) (first_refusal entries) is_none

-- among entries that are not refused those behind the first are not
first_refusal-tail : (entries : List Entry) → first_refusal entries ≡ None → first_refusal (drop 1 entries) ≡ None
unfolding first_refusal
first_refusal-tail [] is_none = refl
first_refusal-tail (entry ∷ entries) is_none = none_second (entry_refusal entry) (first_refusal entries) is_none

pub first_refusal-rest : (entry : Entry) (entries : List Entry) → first_refusal (entry ∷ entries) ≡ None → first_refusal entries ≡ None
unfolding first_refusal
first_refusal-rest entry entries is_none = none_second (entry_refusal entry) (first_refusal entries) is_none

-- the entries from an index on begin with the one that stands there
pub drop-item : (entries : List Entry) (i : ℕ) (default : Entry) → i < length entries → drop i entries ≡ get_or entries i default ∷ drop (i + 1) entries
drop-item entries i default within = rw (add-one, drop-cons entries i default) refl

-- the entry at an index is not refused
pub entry_refusal-at : (entries : List Entry) (i : ℕ) (default : Entry) → i < length entries → first_refusal (drop i entries) ≡ None → entry_refusal (get_or entries i default) ≡ None
entry_refusal-at entries i default within is_none =
    entry_refusal-head (get_or entries i default) (drop (i + 1) entries) (rw (drop-item entries i default within) at is_none)

-- the entries behind an index are not refused
pub first_refusal-more : (entries : List Entry) (i : ℕ) → first_refusal (drop i entries) ≡ None → first_refusal (drop (i + 1) entries) ≡ None
first_refusal-more entries i is_none = rw (← drop-drop 1 i entries) (first_refusal-tail (drop i entries) is_none)

-- among entries that are not refused one behind others is not
entry_refusal-behind : (before : List Entry) (entry : Entry) (after : List Entry) → first_refusal (before ++ entry ∷ after) ≡ None → entry_refusal entry ≡ None
unfolding first_refusal
entry_refusal-behind [] entry after is_none = none_first (entry_refusal entry) (first_refusal after) is_none
entry_refusal-behind (other ∷ before) entry after is_none = entry_refusal-behind before entry after (none_second (entry_refusal other) (first_refusal (before ++ entry ∷ after)) is_none)

-- a test that would refuse is false
no_refusal : {T : Type 0} (b : Bool) (x : T) → (if b then Some x else None) ≡ None → b ≡ false
no_refusal true x is_none = cc
no_refusal false x is_none = refl

-- an entry of action 8 that is not refused has room for the address structure
has_room : (entry : Entry) → entry_refusal entry ≡ None → entry.instruction < 4 → entry.action ≡ 8 → entry.register.address + 36 ≤ 2 ^ 64
has_room entry is_none below is_eight =
    let first : nat_lt 4 entry.instruction ≡ false = grind (arith, nat_tests) in
    let second : (entry.instruction == 4) ≡ false = grind (arith, nat_tests) in
    let refusal = behind_tests (nat_lt 4 entry.instruction) (entry.instruction == 4) _ None (register_refusal entry.at (register_reason entry)) first second is_none in
    let inside = none_second (gas_refusal entry.register) _ (no_reason entry.at (register_reason entry) refusal) in
    let whole = no_refusal (is_cut_off entry) _ inside in
    let eight : (entry.action == 8) ≡ true = grind (arith, nat_tests) in
    let room : nat_lt (2 ^ 64) (entry.register.address + 36) ≡ false = rw eight at whole in
    grind (arith, nat_tests)

-- what fits action 8 writes its register
fits-writes : (entry : Entry) → fits 8 entry ≡ true → (entry.action ≡ 8) × (entry.instruction < 4)
fits-writes entry is = grind (arith, nat_tests)

-- the anchor of action 8 has room for the address structure
pub anchor-has_room : (entries : List Entry) (entry : Entry) → anchor_of 8 entries ≡ Some entry → first_refusal entries ≡ None → entry.register.address + 36 ≤ 2 ^ 64
anchor-has_room entries entry found is_none =
    let anchor = anchor_found 8 entries entry found in
    let fitting = fits-writes entry anchor.fitting in
    has_room entry (entry_refusal-behind anchor.before entry anchor.after (rw anchor.place at is_none)) fitting.1 fitting.0

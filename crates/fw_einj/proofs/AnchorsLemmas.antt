-- The anchors of an accepted table have registers that name regions.
use Rattle.std.proofs.Common.{◌≡◌, ◌<◌, ◌≤◌, ◌⊎◌, inl, inr, ◌+◌, ℕ, Bool, true, false, List, [], ◌∷◌, ◌++◌, map, length, drop, get_or, Option, Some, None, refl, sym, ap, ◌∙◌, arith, append_assoc, append-nil, not, cond, is_none, ◌==◌, nat_lt}
use Rattle.std.specs.Option.{IsSome}
use Rattle.std.specs.List.{filter}
use Rattle.std.proofs.lemmas.Bool.Decides.{nat_tests}
use Rattle.std.proofs.lemmas.List.{at_drop_all}
use Rattle.apei_base.specs.Region.{gas_refusal}
use Rattle.apei_einj.specs.Anchor.{anchor_of}
use Rattle.apei_einj.specs.Refusal.{entry_refusal, first_refusal}
use Rattle.apei_einj.specs.Sound.{fits}
use Rattle.apei_einj.specs.declared.entry.Entry.{Entry}
use Rattle.apei_einj.proofs.AnchorLemmas.{anchor_found}
use Rattle.apei_einj.proofs.RefusedLemmas.{gas_refusal_accepted, entry_refusal-head, first_refusal-rest, drop-item}
use Rattle.apei_base.specs.declared.region.Space.{Space}
use Rattle.fw_einj.specs.New.{register_run, register_runs}

not_some : (o : Option Entry) → IsSome o → o ≡ None → ⊥
not_some (Some x) is none = absurd (cc none)
not_some None is none = absurd (cc is)

-- an entry behind others that are not refused is not
behind : (before : List Entry) (entry : Entry) (after : List Entry) → first_refusal (before ++ entry ∷ after) ≡ None → entry_refusal entry ≡ None
behind [] entry after none = entry_refusal-head entry after none
behind (other ∷ before) entry after none = behind before entry after (first_refusal-rest other (before ++ entry ∷ after) none)

-- an entry that fits an action has an instruction with a register
fits-below : (action : ℕ) (entry : Entry) → fits action entry ≡ true → entry.instruction < 4
fits-below action entry is = grind (arith, nat_tests)

-- the register of an anchor names a region
pub anchor_accepted : (action : ℕ) (entries : List Entry) (entry : Entry) → anchor_of action entries ≡ Some entry → first_refusal entries ≡ None → gas_refusal entry.register ≡ None
anchor_accepted action entries entry found none =
    let anchor = anchor_found action entries entry found in
    gas_refusal_accepted entry (behind anchor.before entry anchor.after (rw anchor.place at none)) (fits-below action entry anchor.fitting)

-- of entries that are not refused one that is no no operation has an instruction with a register
first_false : {A : Type 0} (b : Bool) (x : A) (y : Option A) → cond b (Some x) y ≡ None → b ≡ false
first_false true x y none = absurd (cc none)
first_false false x y none = refl

below_of : (entry : Entry) → entry_refusal entry ≡ None → (entry.instruction ≡ 4 → ⊥) → entry.instruction < 4
below_of entry none other =
    let known : nat_lt 4 entry.instruction ≡ false = first_false _ _ _ none in
    grind (arith, nat_tests)

-- its register names a region
pub register_accepted : (entry : Entry) → entry_refusal entry ≡ None → (entry.instruction ≡ 4 → ⊥) → gas_refusal entry.register ≡ None
register_accepted entry none other = gas_refusal_accepted entry none (below_of entry none other)

-- what is none passes the test
pub none_passes : {A : Type 0} (o : Option A) → o ≡ None → is_none o ≡ true
none_passes o none = ap is_none none

-- action 2 has an anchor where action 8 has none
pub second_anchor : (two eight : Option Entry) → IsSome two ⊎ IsSome eight → eight ≡ None → IsSome two
second_anchor two eight either none = elim either [ inl first ↦ first | inr second ↦ absurd (not_some eight second none) ]

-- the cells of the register of the first of several entries, and those of the others
kept_or_not : (b : Bool) (entry : Entry) (entries : List Entry)
    → map register_run (cond b (entry ∷ []) []) ++ map register_run entries ≡ map register_run (cond b (entry ∷ entries) entries)
kept_or_not true entry entries = refl
kept_or_not false entry entries = refl

runs-cons : (entry : Entry) (entries : List Entry) → register_runs (entry ∷ []) ++ register_runs entries ≡ register_runs (entry ∷ entries)
runs-cons entry entries = kept_or_not (not (entry.instruction == 4)) entry (filter (λ e. not (e.instruction == 4)) entries)

pub runs-more : (entries : List Entry) (i : ℕ) (default : Entry) (old new : List (Space × ℕ × ℕ)) → i < length entries
    → old ++ register_runs (drop i entries) ≡ register_runs entries → new ≡ old ++ register_runs (get_or entries i default ∷ [])
    → new ++ register_runs (drop (i + 1) entries) ≡ register_runs entries
runs-more entries i default old new within so_far added =
    ap (λ runs. runs ++ register_runs (drop (i + 1) entries)) added
    ∙ append_assoc old (register_runs (get_or entries i default ∷ [])) (register_runs (drop (i + 1) entries))
    ∙ ap (λ runs. old ++ runs) (runs-cons (get_or entries i default) (drop (i + 1) entries) ∙ ap register_runs (sym (drop-item entries i default within)))
    ∙ so_far

-- behind the last entry there are no more
pub runs-end : (entries : List Entry) (i : ℕ) (all : List (Space × ℕ × ℕ)) → length entries ≤ i
    → all ++ register_runs (drop i entries) ≡ register_runs entries → all ≡ register_runs entries
runs-end entries i all past so_far =
    sym (append-nil all) ∙ sym (at_drop_all (λ rest. all ++ register_runs rest) entries i past) ∙ so_far

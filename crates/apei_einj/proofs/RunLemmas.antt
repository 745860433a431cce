-- A run of entries that is carried on along a list.
use Rattle.std.proofs.Common.{◌≡◌, ◌≢◌, ◌<◌, ◌≤◌, arith, ℕ, ◌+◌, Bool, true, false, cond, ◌==◌, None, List, [], ◌∷◌, Result, Ok, Err, length, get_or, drop, refl, ap, subst, inl, inr, ◌∙◌}
use Rattle.std.proofs.lemmas.List.{at_drop_all}
use Rattle.std.proofs.lemmas.Bool.Decides.{nat_tests}
use Rattle.std.specs.Option.{option_or}
use Rattle.std.specs.Result.{OnErr}
use Rattle.apei_base.specs.Bus.{Access}
use Rattle.apei_einj.specs.Action.{Runs, IsCutOff, Does, IsCutIn, instruction_of}
use Rattle.apei_einj.specs.Entry.{of_action}
use Rattle.apei_einj.specs.declared.entry.Entry.{Entry}
use Rattle.apei_einj.specs.Refusal.{entry_refusal, first_refusal}
use Rattle.apei_einj.proofs.RefusedLemmas.{drop-item, entry_refusal-head, first_refusal-rest}

-- what holds whatever the result holds on an error
pub on_err : {T E P : Type 0} (r : Result T E) → P → OnErr r P
on_err (Ok x) p = tt
on_err (Err e) p = p

-- Whatever the rest makes of a value and a state, all make it of the first value and the first state.
pub record GoesOn {S : Type 0} (step : S → Access → S → Type 0) (all rest : List Entry) (first value : ℕ) (before now : S) : Type 0 where
  pub runs : (next : ℕ) (after : S) → Runs step rest value now next after → Runs step all first before next after
  pub cuts : (after : S) → IsCutOff step rest value now after → IsCutOff step all first before after

-- at the start the rest is all
pub goes_on-start : {S : Type 0} (step : S → Access → S → Type 0) (all : List Entry) (value : ℕ) (now : S) → GoesOn step all all value value now now
goes_on-start step all value now = record { runs = λ _ _ run. run; cuts = λ _ cut. cut }

-- one entry has run
pub goes_on-more : {S : Type 0} (step : S → Access → S → Type 0) (all rest : List Entry) (entry : Entry) (first value next : ℕ) (before now middle : S)
    → GoesOn step all (entry ∷ rest) first value before now → Does step (instruction_of entry.instruction) entry value now next middle
    → GoesOn step all rest first next before middle
unfolding Runs IsCutOff
goes_on-more step all rest entry first value next before now middle goes does = record {
  runs = λ last after run. goes.runs last after (next, middle, does, run);
  cuts = λ after cut. goes.cuts after (inr (next, middle, does, cut));
}

-- one entry was cut off
pub goes_on-cut : {S : Type 0} (step : S → Access → S → Type 0) (all rest : List Entry) (entry : Entry) (first value : ℕ) (before now after : S)
    → GoesOn step all (entry ∷ rest) first value before now → IsCutIn step (instruction_of entry.instruction) entry now after
    → IsCutOff step all first before after
unfolding IsCutOff
goes_on-cut step all rest entry first value before now after goes cut = goes.cuts after (inl cut)

-- no entry is left
goes_on-end : {S : Type 0} (step : S → Access → S → Type 0) (all : List Entry) (first value : ℕ) (before now : S)
    → GoesOn step all [] first value before now → Runs step all first before value now
unfolding Runs
goes_on-end step all first value before now goes = goes.runs value now (refl, refl)

-- no entry is left at the end of the list
pub goes_on-all : {S : Type 0} (step : S → Access → S → Type 0) (action : ℕ) (entries : List Entry) (i first value : ℕ) (before now : S) → length entries ≤ i
    → GoesOn step (of_action action entries) (of_action action (drop i entries)) first value before now → Runs step (of_action action entries) first before value now
goes_on-all step action entries i first value before now past goes =
    let here = subst (λ (rest : List Entry). GoesOn step (of_action action entries) rest first value before now) (at_drop_all (of_action action) entries i past) goes in
    goes_on-end step (of_action action entries) first value before now here

-- an entry of the action is the first of those that are left
pub of_action-own : (action : ℕ) (entry : Entry) (entries : List Entry) → entry.action ≡ action → of_action action (entry ∷ entries) ≡ entry ∷ of_action action entries
of_action-own action entry entries is_own = let test : (entry.action == action) ≡ true = grind (arith, nat_tests) in rw test

-- an entry of another action is passed over
pub of_action-other : (action : ℕ) (entry : Entry) (entries : List Entry) → entry.action ≢ action → of_action action (entry ∷ entries) ≡ of_action action entries
of_action-other action entry entries is_other = let test : (entry.action == action) ≡ false = grind (arith, nat_tests) in rw test

-- the entry at an index is of the action: it is the first of those that are left
pub own-at : (action : ℕ) (entries : List Entry) (i : ℕ) (default : Entry) → i < length entries → (get_or entries i default).action ≡ action
    → of_action action (drop i entries) ≡ get_or entries i default ∷ of_action action (drop (i + 1) entries)
own-at action entries i default within is_own =
    ap (of_action action) (drop-item entries i default within) ∙ of_action-own action (get_or entries i default) (drop (i + 1) entries) is_own

-- the entry at an index is of another action: it is passed over
pub other-at : (action : ℕ) (entries : List Entry) (i : ℕ) (default : Entry) → i < length entries → (get_or entries i default).action ≢ action
    → of_action action (drop i entries) ≡ of_action action (drop (i + 1) entries)
other-at action entries i default within is_other =
    ap (of_action action) (drop-item entries i default within) ∙ of_action-other action (get_or entries i default) (drop (i + 1) entries) is_other

-- the entry at an index is of the action, and none from there on is refused
pub accepted-own_at : (action : ℕ) (entries : List Entry) (i : ℕ) (default : Entry) → i < length entries → (get_or entries i default).action ≡ action
    → first_refusal (of_action action (drop i entries)) ≡ None → (entry_refusal (get_or entries i default) ≡ None) × (first_refusal (of_action action (drop (i + 1) entries)) ≡ None)
accepted-own_at action entries i default within is_own is_none =
    let here = subst (λ (rest : List Entry). first_refusal rest ≡ None) (own-at action entries i default within is_own) is_none in (
      entry_refusal-head (get_or entries i default) (of_action action (drop (i + 1) entries)) here,
      first_refusal-rest (get_or entries i default) (of_action action (drop (i + 1) entries)) here,
    )

-- it is of another action
pub accepted-other_at : (action : ℕ) (entries : List Entry) (i : ℕ) (default : Entry) → i < length entries → (get_or entries i default).action ≢ action
    → first_refusal (of_action action (drop i entries)) ≡ None → first_refusal (of_action action (drop (i + 1) entries)) ≡ None
accepted-other_at action entries i default within is_other is_none =
    subst (λ (rest : List Entry). first_refusal rest ≡ None) (other-at action entries i default within is_other) is_none

own_one : (own : Bool) (entry : Entry) (rest : List Entry) → entry_refusal entry ≡ None → first_refusal rest ≡ None → first_refusal (cond own (entry ∷ rest) rest) ≡ None
unfolding first_refusal
own_one true entry rest here later = ap (λ o. option_or o (first_refusal rest)) here ∙ later
own_one false entry rest here later = later

-- among entries that are not refused those of an action are not
pub accepted-of_action : (action : ℕ) (entries : List Entry) → first_refusal entries ≡ None → first_refusal (of_action action entries) ≡ None
accepted-of_action action [] is_none = is_none
accepted-of_action action (entry ∷ entries) is_none =
    own_one (entry.action == action) entry (of_action action entries) (entry_refusal-head entry entries is_none)
    (accepted-of_action action entries (first_refusal-rest entry entries is_none))

module _ {S : Type 0} (step : S → Access → S → Type 0) (action : ℕ) (entries : List Entry) (i : ℕ) (default : Entry) (first value : ℕ) (before now : S) where
  -- the entry at an index is of another action, and was passed over
  pub goes_on-other_at : i < length entries → (get_or entries i default).action ≢ action
      → GoesOn step (of_action action entries) (of_action action (drop i entries)) first value before now
      → GoesOn step (of_action action entries) (of_action action (drop (i + 1) entries)) first value before now
  goes_on-other_at within is_other goes =
      subst (λ (rest : List Entry). GoesOn step (of_action action entries) rest first value before now) (other-at action entries i default within is_other) goes

  -- the entry at an index is of the action, and has run
  pub goes_on-own_at : (next : ℕ) (middle : S) → i < length entries → (get_or entries i default).action ≡ action
      → GoesOn step (of_action action entries) (of_action action (drop i entries)) first value before now
      → Does step (instruction_of (get_or entries i default).instruction) (get_or entries i default) value now next middle
      → GoesOn step (of_action action entries) (of_action action (drop (i + 1) entries)) first next before middle
  goes_on-own_at next middle within is_own goes does =
      let here = subst (λ (rest : List Entry). GoesOn step (of_action action entries) rest first value before now) (own-at action entries i default within is_own) goes in
      goes_on-more step (of_action action entries) (of_action action (drop (i + 1) entries)) (get_or entries i default) first value next before now middle here does

  -- the entry at an index is of the action, and was cut off
  pub goes_on-cut_at : (after : S) → i < length entries → (get_or entries i default).action ≡ action
      → GoesOn step (of_action action entries) (of_action action (drop i entries)) first value before now
      → IsCutIn step (instruction_of (get_or entries i default).instruction) (get_or entries i default) now after
      → IsCutOff step (of_action action entries) first before after
  goes_on-cut_at after within is_own goes cut =
      let here = subst (λ (rest : List Entry). GoesOn step (of_action action entries) rest first value before now) (own-at action entries i default within is_own) goes in
      goes_on-cut step (of_action action entries) (of_action action (drop (i + 1) entries)) (get_or entries i default) first value before now after here cut

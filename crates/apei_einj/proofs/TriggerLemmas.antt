-- The entries of a trigger table, one by one.
use Rattle.std.proofs.Common.{◌≡◌, ◌<◌, ◌≤◌, ℕ, zero, suc, ◌+◌, ◌++◌, ◌*◌, ◌/◌, ◌==◌, ◌&&◌, nat_lt, Bool, true, false, cond, if◌then◌else◌, List, [], ◌∷◌, length, take, drop, slice_get, Option, Some, None, is_some, refl, sym, ap, ◌∙◌, arith}
use Rattle.std.specs.Option.{option_or}
use Rattle.std.proofs.lemmas.Bool.Decides.{nat_tests}
use Rattle.std.proofs.Math.Nat.{le-div_iff_mul-le, mul-div_cancel_left}
use Rattle.std.proofs.lemmas.Bool.{eqb-true}
use Rattle.std.proofs.lemmas.List.{drop-drop, at_drop_all, take_more}
use Rattle.std.proofs.lemmas.Option.{get_or_from_slice_get, slice_get_within}
use Rattle.apei_base.specs.Region.{gas_refusal}
use Rattle.apei_base.specs.declared.gas.GasError.{GasError}
use Rattle.apei_einj.specs.Entry.{entry_of, pieces_of, entries_from, of_action}
use Rattle.apei_einj.specs.Refusal.{entry_refusal, first_refusal, register_refusal, register_reason}
use Rattle.apei_einj.specs.Trigger.{trigger_entries, trigger_reason, first_reason}
use Rattle.apei_einj.specs.declared.entry.Entry.{Entry}
use Rattle.apei_einj.specs.declared.error.EinjError.{EinjError}
use Rattle.apei_einj.specs.declared.injected.InjectError.{InjectError}
use Rattle.apei_einj.proofs.RefusedLemmas.{none_first, none_second}

-- the entry of the piece at an index
entry_from : (n at : ℕ) (bytes : List ℕ) (i : ℕ) → i < n → slice_get (entries_from at (pieces_of n bytes)) i ≡ Some (entry_of (take 32 (drop (32 * i) bytes)) (at + 32 * i))
unfolding pieces_of entries_from
entry_from zero at bytes i within = absurd (omega arith)
entry_from (suc n) at bytes zero within = let place : at ≡ at + 32 * 0 = omega arith in ap (λ k. Some (entry_of (take 32 bytes) k)) place
entry_from (suc n) at bytes (suc i) within =
    let place : at + 32 + 32 * i ≡ at + 32 * suc i = omega arith in
    let behind : 32 + 32 * i ≡ 32 * suc i = omega arith in
    entry_from n (at + 32) (drop 32 bytes) i (omega arith)
    ∙ ap (λ rest. Some (entry_of (take 32 rest) (at + 32 + 32 * i))) (drop-drop (32 * i) 32 bytes)
    ∙ ap (λ k. Some (entry_of (take 32 (drop k bytes)) (at + 32 + 32 * i))) behind
    ∙ ap (λ k. Some (entry_of (take 32 (drop (32 * suc i) bytes)) k)) place

-- the entry at an index of a trigger table
pub entry_there : (bytes : List ℕ) (i : ℕ) → 32 * i + 32 ≤ length bytes → slice_get (trigger_entries bytes) i ≡ Some (entry_of (take 32 (drop (32 * i) bytes)) (16 + 32 * i))
unfolding trigger_entries
entry_there bytes i within =
    let whole : i + 1 ≤ length bytes / 32 = (le-div_iff_mul-le {k = 32} {x = i + 1} {y = length bytes} (omega arith)).1 (omega arith) in
    entry_from (length bytes / 32) 16 bytes i (omega (arith, whole))

-- a trigger table has as many entries as there is room for
length-from : (n at : ℕ) (bytes : List ℕ) → length (entries_from at (pieces_of n bytes)) ≡ n
unfolding pieces_of entries_from
length-from zero at bytes = refl
length-from (suc n) at bytes = ap suc (length-from n (at + 32) (drop 32 bytes))

pub length-entries : (bytes : List ℕ) → length (trigger_entries bytes) ≡ length bytes / 32
unfolding trigger_entries
length-entries bytes = length-from (length bytes / 32) 16 bytes

-- so many as the bytes are whole entries
pub length-whole : (bytes : List ℕ) (n : ℕ) → 32 * n ≡ length bytes → length (trigger_entries bytes) ≡ n
length-whole bytes n whole = length-entries bytes ∙ ap (λ k. k / 32) (sym whole) ∙ mul-div_cancel_left n (omega arith)

-- the first so many entries and one more
pub take_more-there : (entries : List Entry) (i : ℕ) (entry : Entry) → slice_get entries i ≡ Some entry → take (i + 1) entries ≡ take i entries ++ entry ∷ []
take_more-there entries i entry there =
    take_more entries i entry (slice_get_within entries i entry there)
    ∙ ap (λ x. take i entries ++ x ∷ []) (get_or_from_slice_get entries i entry entry there)

-- the first entry is refused
pub reason-here : (entry : Entry) (entries : List Entry) (error : InjectError) → trigger_reason entry ≡ Some error → first_reason (entry ∷ entries) ≡ Some error
unfolding first_reason
reason-here entry entries error is = ap (λ o. option_or o (first_reason entries)) is

-- the first entry is not refused
pub reason-later : (entry : Entry) (entries : List Entry) → trigger_reason entry ≡ None → first_reason (entry ∷ entries) ≡ first_reason entries
unfolding first_reason
reason-later entry entries is = ap (λ o. option_or o (first_reason entries)) is

-- where no entry is refused the first is not
pub reason-none : (entry : Entry) (entries : List Entry) → first_reason (entry ∷ entries) ≡ None → trigger_reason entry ≡ None
unfolding first_reason
reason-none entry entries is_none = none_first (trigger_reason entry) (first_reason entries) is_none

-- no entry is left
pub reason-end : (entries : List Entry) (i : ℕ) → length entries ≤ i → first_reason (of_action 0xff (drop i entries)) ≡ None
unfolding first_reason
reason-end entries i past = ap first_reason (at_drop_all (of_action 0xff) entries i past)

-- two tests that do not refuse are false
unmet : {E : Type 0} (one two : Bool) (first second : E) → (if one then Some first else if two then Some second else None) ≡ None → (one ≡ false) × (two ≡ false)
unmet true two first second is_none = absurd (cc is_none)
unmet false true first second is_none = absurd (cc is_none)
unmet false false first second is_none = (refl, refl)

-- a test of two whose first is true
second_false : (one two : Bool) → one ≡ true → (one && two) ≡ false → two ≡ false
second_false true two is e = e
second_false false two is e = absurd (cc is)

is_none_of : {T : Type 0} (o : Option T) → is_some o ≡ false → o ≡ None
is_none_of None e = refl
is_none_of (Some x) e = absurd (cc e)

-- what is refused neither for its instruction nor for its register
not_refused : (at : ℕ) (above four : Bool) (error : EinjError) (reason : Option GasError) → above ≡ false → (four ≡ false → reason ≡ None) → (if above then Some error else if four then None else register_refusal at reason) ≡ None
not_refused at true four error reason is none = absurd (cc is)
not_refused at false true error reason is none = refl
not_refused at false false error reason is none = ap (register_refusal at) (none refl)

-- a register that names a region is not refused, but for action 8
named : (entry : Entry) → (entry.action == 8) ≡ false → gas_refusal entry.register ≡ None → register_reason entry ≡ None
named entry other names = rw (names, other) refl

-- an entry of the trigger action that is not refused can be run
pub trigger_runs : (entry : Entry) → entry.action ≡ 0xff → trigger_reason entry ≡ None → entry_refusal entry ≡ None
trigger_runs entry is is_none =
    let tests = unmet (nat_lt 4 entry.instruction) (nat_lt entry.instruction 4 && is_some (gas_refusal entry.register)) _ _ is_none in
    let other : (entry.action == 8) ≡ false = grind (arith, nat_tests) in
    not_refused entry.at (nat_lt 4 entry.instruction) (entry.instruction == 4) _ (register_reason entry) tests.0 (λ low.
    let below : nat_lt entry.instruction 4 ≡ true = grind (arith, nat_tests, tests.0) in
    named entry other (is_none_of (gas_refusal entry.register) (second_false (nat_lt entry.instruction 4) _ below tests.1)))

triggers_one : (entry : Entry) (later : List Entry) (own : Bool) → (entry.action == 0xff) ≡ own → (first_reason later ≡ None → first_refusal later ≡ None)
    → first_reason (cond own (entry ∷ later) later) ≡ None → first_refusal (cond own (entry ∷ later) later) ≡ None
unfolding first_reason first_refusal
triggers_one entry later true is more is_none =
    ap (λ o. option_or o (first_refusal later)) (trigger_runs entry (eqb-true entry.action 0xff is) (none_first (trigger_reason entry) (first_reason later) is_none))
    ∙ more (none_second (trigger_reason entry) (first_reason later) is_none)
triggers_one entry later false is more is_none = more is_none

-- entries of the trigger action that are not refused can be run
pub triggers_run : (entries : List Entry) → first_reason (of_action 0xff entries) ≡ None → first_refusal (of_action 0xff entries) ≡ None
unfolding first_reason first_refusal
triggers_run [] is_none = refl
triggers_run (entry ∷ entries) is_none = triggers_one entry (of_action 0xff entries) (entry.action == 0xff) refl (triggers_run entries) is_none

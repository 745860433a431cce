-- Entries that are walked over, one more at a time.
use Rattle.std.proofs.Common.{◌≡◌, ◌≤◌, ◌<◌, ℕ, zero, suc, ◌+◌, ◌*◌, ◌==◌, Bool, true, false, cond, List, [], ◌∷◌, ◌++◌, length, take, drop, refl, sym, ap, ◌∙◌, arith, append_assoc, append-nil, Some, None}
use Rattle.std.specs.List.{filter, AllByRecursion}
use Rattle.std.specs.Option.{option_or}
use Rattle.std.proofs.lemmas.Bool.{eqb-true}
use Rattle.std.proofs.lemmas.List.{length-drop}
use Rattle.apei_einj.specs.Entry.{entry_of, pieces_of, entries_from, is_injection}
use Rattle.apei_einj.specs.Refusal.{entry_refusal, first_refusal}
use Rattle.apei_einj.specs.Table.{stated_count, einj_entries, IsRunnable}
use Rattle.apei_einj.specs.Walk.{IsReadUpTo}
use Rattle.apei_einj.specs.declared.entry.Entry.{Entry}
use Rattle.apei_einj.specs.declared.error.EinjError.{EinjError}

-- no entry yet
pub walked_none : (bytes : List ℕ) → 48 ≤ length bytes → 32 * stated_count bytes ≡ length (drop 48 bytes) → IsReadUpTo bytes [] 48 (drop 48 bytes)
unfolding einj_entries
walked_none bytes long counted =
    let behind = length-drop 48 bytes in
    record { left = stated_count bytes; whole = counted; place = omega arith; entries = refl; runnable = tt }

-- the entry at the front of a rest of one entry or more, and those behind it
pieces_more : (left at : ℕ) (rest : List ℕ) → entries_from at (pieces_of (suc left) rest) ≡ entry_of (take 32 rest) at ∷ entries_from (at + 32) (pieces_of left (drop 32 rest))
unfolding pieces_of entries_from
pieces_more left at rest = refl

-- a rest of no entry has none
pieces_none : (at : ℕ) (rest : List ℕ) → entries_from at (pieces_of 0 rest) ≡ []
unfolding pieces_of entries_from
pieces_none at rest = refl

-- what a test keeps of one element and of others
kept_one : (entry : Entry) (later : List Entry) (kept : Bool) → cond kept (entry ∷ later) later ≡ cond kept (entry ∷ []) [] ++ later
kept_one entry later true = refl
kept_one entry later false = refl

-- entries that can be run, and others
pub all_append : (xs ys : List Entry) → AllByRecursion IsRunnable xs → AllByRecursion IsRunnable ys → AllByRecursion IsRunnable (xs ++ ys)
all_append [] ys all others = others
all_append (x ∷ xs) ys all others = (all.0, all_append xs ys all.1 others)

-- an entry that is kept can be run
kept_runnable : (entry : Entry) (kept : Bool) → is_injection entry ≡ kept → (is_injection entry ≡ true → entry_refusal entry ≡ None) → AllByRecursion IsRunnable (cond kept (entry ∷ []) [])
kept_runnable entry true is here = ((is, here is), tt)
kept_runnable entry false is here = tt

-- the entries of a table by the front of a rest
entries_more : (bytes : List ℕ) (found : List Entry) (left at : ℕ) (rest : List ℕ) → einj_entries bytes ≡ found ++ filter is_injection (entries_from at (pieces_of (suc left) rest)) → einj_entries bytes ≡ (found ++ filter is_injection (entry_of (take 32 rest) at ∷ [])) ++ filter is_injection (entries_from (at + 32) (pieces_of left (drop 32 rest)))
entries_more bytes found left at rest e =
    let entry = entry_of (take 32 rest) at in
    let later = filter is_injection (entries_from (at + 32) (pieces_of left (drop 32 rest))) in
    e ∙ ap (λ (xs : List Entry). found ++ filter is_injection xs) (pieces_more left at rest)
    ∙ ap (λ (xs : List Entry). found ++ xs) (kept_one entry later (is_injection entry))
    ∙ sym (append_assoc found (cond (is_injection entry) (entry ∷ []) []) later)

-- one more entry, which is kept where an injection runs its action
step : (bytes : List ℕ) (found : List Entry) (at : ℕ) (rest : List ℕ) (left : ℕ) → 32 * left ≡ length rest → 0 < length rest → at + length rest ≡ length bytes → einj_entries bytes ≡ found ++ filter is_injection (entries_from at (pieces_of left rest)) → AllByRecursion IsRunnable found → (is_injection (entry_of (take 32 rest) at) ≡ true → entry_refusal (entry_of (take 32 rest) at) ≡ None) → IsReadUpTo bytes (found ++ filter is_injection (entry_of (take 32 rest) at ∷ [])) (at + 32) (drop 32 rest)
step bytes found at rest zero whole more place entries runnable here = absurd (omega arith)
step bytes found at rest (suc left) whole more place entries runnable here =
    let entry = entry_of (take 32 rest) at in
    let behind = length-drop 32 rest in
    record {
      left = left;
      whole = omega arith;
      place = omega arith;
      entries = entries_more bytes found left at rest entries;
      runnable = all_append found (cond (is_injection entry) (entry ∷ []) []) runnable (kept_runnable entry (is_injection entry) refl here);
    }

pub walked_more : (bytes : List ℕ) (found : List Entry) (at : ℕ) (rest : List ℕ) → IsReadUpTo bytes found at rest → 0 < length rest → (is_injection (entry_of (take 32 rest) at) ≡ true → entry_refusal (entry_of (take 32 rest) at) ≡ None) → IsReadUpTo bytes (found ++ filter is_injection (entry_of (take 32 rest) at ∷ [])) (at + 32) (drop 32 rest)
walked_more bytes found at rest w more here = step bytes found at rest w.left w.whole more w.place w.entries w.runnable here

-- a rest that is not empty has one entry or more
pub walked_room : (bytes : List ℕ) (found : List Entry) (at : ℕ) (rest : List ℕ) → IsReadUpTo bytes found at rest → 0 < length rest → 32 ≤ length rest
walked_room bytes found at rest w more = omega (arith, w.whole)

-- an empty rest has no entry
ended : (bytes : List ℕ) (found : List Entry) (at : ℕ) (rest : List ℕ) (left : ℕ) → 32 * left ≡ length rest → length rest ≡ 0 → einj_entries bytes ≡ found ++ filter is_injection (entries_from at (pieces_of left rest)) → found ≡ einj_entries bytes
ended bytes found at rest zero whole none entries =
    sym (entries ∙ ap (λ (xs : List Entry). found ++ filter is_injection xs) (pieces_none at rest) ∙ append-nil found)
ended bytes found at rest (suc left) whole none entries = absurd (omega arith)

pub walked_all : (bytes : List ℕ) (found : List Entry) (at : ℕ) (rest : List ℕ) → IsReadUpTo bytes found at rest → (length rest == 0) ≡ true → found ≡ einj_entries bytes
walked_all bytes found at rest w none = ended bytes found at rest w.left w.whole (eqb-true (length rest) 0 none) w.entries

-- behind entries that can be run, the others decide
pub first_refusal_behind : (xs ys : List Entry) → AllByRecursion IsRunnable xs → first_refusal (xs ++ ys) ≡ first_refusal ys
unfolding first_refusal
first_refusal_behind [] ys all = refl
first_refusal_behind (x ∷ xs) ys all = ap (λ o. option_or o (first_refusal (xs ++ ys))) all.0.1 ∙ first_refusal_behind xs ys all.1

-- an entry that is kept and refused is the first
refused_here : (entry : Entry) (later : List Entry) (error : EinjError) → is_injection entry ≡ true → entry_refusal entry ≡ Some error → first_refusal (cond (is_injection entry) (entry ∷ []) [] ++ later) ≡ Some error
unfolding first_refusal
refused_here entry later error is refused =
    ap (λ b. first_refusal (cond b (entry ∷ []) [] ++ later)) is ∙ ap (λ o. option_or o (first_refusal later)) refused

stopped : (bytes : List ℕ) (found : List Entry) (at : ℕ) (rest : List ℕ) (left : ℕ) (error : EinjError) → 32 * left ≡ length rest → 0 < length rest → einj_entries bytes ≡ found ++ filter is_injection (entries_from at (pieces_of left rest)) → AllByRecursion IsRunnable found → is_injection (entry_of (take 32 rest) at) ≡ true → entry_refusal (entry_of (take 32 rest) at) ≡ Some error → first_refusal (einj_entries bytes) ≡ Some error
stopped bytes found at rest zero error whole more entries runnable is refused = absurd (omega arith)
stopped bytes found at rest (suc left) error whole more entries runnable is refused =
    let entry = entry_of (take 32 rest) at in
    let later = filter is_injection (entries_from (at + 32) (pieces_of left (drop 32 rest))) in
    ap first_refusal (entries_more bytes found left at rest entries ∙ append_assoc found (cond (is_injection entry) (entry ∷ []) []) later)
    ∙ first_refusal_behind found (cond (is_injection entry) (entry ∷ []) [] ++ later) runnable
    ∙ refused_here entry later error is refused

-- the walk stops at an entry that is refused
pub walked_stops : (bytes : List ℕ) (found : List Entry) (at : ℕ) (rest : List ℕ) (error : EinjError) → IsReadUpTo bytes found at rest → 0 < length rest → is_injection (entry_of (take 32 rest) at) ≡ true → entry_refusal (entry_of (take 32 rest) at) ≡ Some error → first_refusal (einj_entries bytes) ≡ Some error
walked_stops bytes found at rest error w more is refused = stopped bytes found at rest w.left error w.whole more w.entries w.runnable is refused

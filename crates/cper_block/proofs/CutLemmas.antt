-- Data that is cut into entries, one more at a time.
use Rattle.std.proofs.Common.{◌≡◌, ◌≤◌, ◌<◌, ℕ, zero, suc, ◌-◌, ◌*◌, ◌^◌, Bool, true, false, cond, leb, ◌&&◌, List, [], ◌∷◌, ◌++◌, length, take, drop, refl, sym, ap, ◌∙◌, arith}
use Rattle.apei_base.proofs.CutLemmas as base
use Rattle.std.proofs.lemmas.Bool.{le-leb, leb-true, false≢true}
use Rattle.std.proofs.lemmas.List.{length-take-le, length-drop, take-append-drop}
use Rattle.cper_block.specs.Entry.{entry_length, fields_of}
use Rattle.cper_block.specs.Cut.{IsEntry, Cuts, begins_entry, entries_in, entries_of}
use Rattle.cper_block.proofs.EntryLemmas.{entry_length-append, entry_at_least}

-- the front of bytes that begin with an entry is one
pub front_is_entry : (bytes : List ℕ) → 64 ≤ length bytes → 64 ≤ entry_length bytes → entry_length bytes ≤ length bytes → IsEntry (take (entry_length bytes) bytes)
front_is_entry bytes long header whole =
    let n = entry_length bytes in
    let size : length (take n bytes) ≡ n = length-take-le n bytes whole in
    let long_front : 64 ≤ length (take n bytes) = omega arith in
    let same : entry_length bytes ≡ entry_length (take n bytes) =
    ap entry_length (sym (take-append-drop n bytes)) ∙ entry_length-append (take n bytes) (drop n bytes) long_front in
    record { header = long_front; stated = size ∙ same }

-- one more entry
pub cuts_more : (bytes : List ℕ) (entries : List (List ℕ)) (rest : List ℕ) → 64 ≤ length rest → 64 ≤ entry_length rest → entry_length rest ≤ length rest → Cuts bytes entries rest → Cuts bytes (entries ++ take (entry_length rest) rest ∷ []) (drop (entry_length rest) rest)
cuts_more bytes entries rest long header whole c =
    base.cuts_more IsEntry (entry_length rest) bytes entries rest (front_is_entry rest long header whole) c

-- what is left behind a whole entry is shorter
pub rest_shorter : (bytes : List ℕ) (m : ℕ) → length bytes ≤ suc m → begins_entry bytes ≡ true → length (drop (entry_length bytes) bytes) ≤ m
rest_shorter bytes m few begins =
    let more : 64 ≤ entry_length bytes = entry_at_least bytes in
    omega (arith, length-drop (entry_length bytes) bytes)

-- how many steps are allowed does not matter, where they are enough
enough_alike : (m k : ℕ) (bytes : List ℕ) → length bytes ≤ m → length bytes ≤ k → entries_in m bytes ≡ entries_in k bytes
enough_alike zero zero bytes few_m few_k = refl
enough_alike zero (suc k) [] few_m few_k = refl
enough_alike zero (suc k) (x ∷ xs) few_m few_k = absurd (omega arith)
enough_alike (suc m) zero [] few_m few_k = refl
enough_alike (suc m) zero (x ∷ xs) few_m few_k = absurd (omega arith)
enough_alike (suc m) (suc k) bytes few_m few_k =
    let n = entry_length bytes in
    let first = fields_of (take n bytes) in
    let P : Bool → Type 0 = λ b. begins_entry bytes ≡ b → cond b (first ∷ entries_in m (drop n bytes)) [] ≡ cond b (first ∷ entries_in k (drop n bytes)) [] in
    let same : P (begins_entry bytes) = elim (begins_entry bytes) as P [
      | true ↦ λ begins. ap (λ rest. first ∷ rest) (enough_alike m k (drop n bytes) (rest_shorter bytes m few_m begins) (rest_shorter bytes k few_k begins))
      | false ↦ λ begins. refl
    ] in
    same refl

-- the entries of bytes that begin with one
pub entries_step : (bytes : List ℕ) → begins_entry bytes ≡ true → 64 ≤ length bytes → entries_of bytes ≡ fields_of (take (entry_length bytes) bytes) ∷ entries_of (drop (entry_length bytes) bytes)
entries_step bytes begins long =
    let n = entry_length bytes in
    let m = length bytes - 1 in
    let size : length bytes ≡ suc m = omega arith in
    let first = fields_of (take n bytes) in
    ap (λ steps. entries_in steps bytes) size
    ∙ ap (λ b. cond b (first ∷ entries_in m (drop n bytes)) []) begins
    ∙ ap (λ rest. first ∷ rest) (enough_alike m (length (drop n bytes)) (drop n bytes) (rest_shorter bytes m (omega arith) begins) (omega arith))

pub second_true : (a b : Bool) → (a && b) ≡ true → b ≡ true
second_true true b both = both
second_true false b both = absurd (false≢true both)

pub first_true : (a b : Bool) → (a && b) ≡ true → a ≡ true
first_true true b both = refl
first_true false b both = absurd (false≢true both)

-- each entry has a header's bytes
entries_in_fit : (n : ℕ) (bytes : List ℕ) → 64 * length (entries_in n bytes) ≤ length bytes
entries_in_fit zero bytes = omega arith
entries_in_fit (suc n) bytes =
    let size = entry_length bytes in
    let P : Bool → Type 0 = λ b. begins_entry bytes ≡ b → 64 * length (cond b (fields_of (take size bytes) ∷ entries_in n (drop size bytes)) []) ≤ length bytes in
    let all : P (begins_entry bytes) = elim (begins_entry bytes) as P [
      | true ↦ λ begins.
          let within : 64 * length (entries_in n (drop size bytes)) ≤ length (drop size bytes) = entries_in_fit n (drop size bytes) in
          let more : 64 ≤ size = entry_at_least bytes in
          let whole : size ≤ length bytes = leb-true size (length bytes) (second_true (leb 64 (length bytes)) (leb size (length bytes)) begins) in
          omega (arith, length-drop size bytes)
      | false ↦ λ begins. omega arith
    ] in
    all refl

-- fewer than 2^32 bytes hold fewer than 2^26 entries
pub few_entries : (bytes : List ℕ) → length bytes < 2 ^ 32 → length (entries_of bytes) < 2 ^ 26
few_entries bytes short =
    let fit : 64 * length (entries_of bytes) ≤ length bytes = entries_in_fit (length bytes) bytes in
    omega arith

-- a whole entry begins bytes that are long enough
pub begins_long : (bytes : List ℕ) → 64 ≤ length bytes → entry_length bytes ≤ length bytes → begins_entry bytes ≡ true
begins_long bytes long whole =
    ap (λ b. b && leb (entry_length bytes) (length bytes)) (le-leb 64 (length bytes) long) ∙ le-leb (entry_length bytes) (length bytes) whole

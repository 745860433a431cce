-- The computed reason of a block is its judgement, and does not depend on a limit that it keeps.
use Rattle.std.proofs.Common.{◌≡◌, ◌≤◌, ℕ, zero, suc, ◌+◌, min, Bool, true, false, cond, ltb, List, [], ◌∷◌, ◌++◌, length, take, drop, refl, sym, ap, ◌∙◌, subst, arith, append_assoc, zero-add, Option, Some, None}
use Rattle.std.specs.Option.{option_or}
use Rattle.std.specs.List.{flat_map}
use Rattle.std.proofs.lemmas.Bool.{leb-true, ltb-false, le-ltb}
use Rattle.std.proofs.lemmas.List.{take-append-drop}
use Rattle.cper_block.specs.Block.{data_of, front_reason, JudgedBy, Judges}
use Rattle.cper_block.specs.Cut.{IsEntry, Cuts, begins_entry, rest_reason, Walks}
use Rattle.cper_block.specs.Entry.{entry_length}
use Rattle.cper_block.specs.Header.{header_of, block_length, header_reason}
use Rattle.cper_block.specs.Reason.{reason_in, data_reason, reason_of}
use Rattle.cper_block.specs.declared.header.Header.{Header}
use Rattle.cper_block.specs.declared.malformed.Malformed.{Malformed}
use Rattle.cper_block.specs.declared.malformed.Malformed.TheVariants.{TooShort, TooLong}
use Rattle.cper_block.proofs.CutLemmas.{front_is_entry, rest_shorter, second_true, first_true}
use Rattle.cper_block.proofs.EntryLemmas.{entry_at_least}
use Rattle.cper_block.proofs.LawLemmas.{one_judgement}

-- data is cut, and the rest decides
record IsCut (bytes : List ℕ) (whole : ℕ) (answer : Option Malformed) : Type 0 where
  entries : List (List ℕ)
  rest : List ℕ
  cuts : Cuts bytes entries rest
  none : begins_entry rest ≡ false
  answers : answer ≡ rest_reason (whole + length entries) rest

-- nothing is cut off
not_cut : (whole : ℕ) (bytes : List ℕ) → begins_entry bytes ≡ false → IsCut bytes whole (rest_reason whole bytes)
not_cut whole bytes none =
    let same : whole ≡ whole + 0 = omega arith in
    record { entries = []; rest = bytes; cuts = record { whole = refl; each = tt }; none = none; answers = ap (λ n. rest_reason n bytes) same }

-- one more entry in front
cut_more : (whole n : ℕ) (bytes : List ℕ) (answer : Option Malformed) → IsEntry (take n bytes) → IsCut (drop n bytes) (whole + 1) answer → IsCut bytes whole answer
cut_more whole n bytes answer first c =
    let later : whole + 1 + length c.entries ≡ whole + suc (length c.entries) = omega arith in
    record {
      entries = take n bytes ∷ c.entries;
      rest = c.rest;
      cuts = record {
        whole =
            sym (take-append-drop n bytes) ∙ ap (λ xs. take n bytes ++ xs) c.cuts.whole
            ∙ sym (append_assoc (take n bytes) (flat_map (λ (e : List ℕ). e) c.entries) c.rest);
        each = (first, c.cuts.each);
      };
      none = c.none;
      answers = c.answers ∙ ap (λ k. rest_reason k c.rest) later;
    }

-- nothing begins no bytes
none_begins : (bytes : List ℕ) → length bytes ≤ 0 → begins_entry bytes ≡ false
none_begins [] few = refl
none_begins (x ∷ xs) few = absurd (omega arith)

cut_of : (n whole : ℕ) (bytes : List ℕ) → length bytes ≤ n → IsCut bytes whole (reason_in n whole bytes)
cut_of zero whole bytes few = not_cut whole bytes (none_begins bytes few)
cut_of (suc n) whole bytes few =
    let size = entry_length bytes in
    let P : Bool → Type 0 = λ b. begins_entry bytes ≡ b → IsCut bytes whole (cond b (reason_in n (whole + 1) (drop size bytes)) (rest_reason whole bytes)) in
    let all : P (begins_entry bytes) = elim (begins_entry bytes) as P [
      | true ↦ λ begins.
          let long : 64 ≤ length bytes = leb-true 64 (length bytes) (first_true _ _ begins) in
          let fits : size ≤ length bytes = leb-true size (length bytes) (second_true _ _ begins) in
          cut_more whole size bytes _ (front_is_entry bytes long (entry_at_least bytes) fits)
          (cut_of n (whole + 1) (drop size bytes) (rest_shorter bytes n few begins))
      | false ↦ λ begins. not_cut whole bytes begins
    ] in
    all refl

walks_by_reason : (bytes : List ℕ) → Walks bytes (data_reason bytes)
walks_by_reason bytes =
    let c = cut_of (length bytes) 0 bytes (omega arith) in
    (c.entries, c.rest, c.cuts, c.none, c.answers ∙ ap (λ n. rest_reason n c.rest) (zero-add (length c.entries)))

judged_by_reason : (front : Option Malformed) (data_bytes : List ℕ) → JudgedBy front data_bytes (option_or front (data_reason data_bytes))
judged_by_reason (Some reason) data_bytes = refl
judged_by_reason None data_bytes = walks_by_reason data_bytes

-- the computed reason is a judgement
pub reason_judges : (bytes : List ℕ) (limit : ℕ) → Judges bytes limit (reason_of bytes limit)
unfolding reason_of
reason_judges bytes limit = judged_by_reason (front_reason bytes limit) (data_of bytes)

-- and the only one
pub judgement_is_reason : (bytes : List ℕ) (limit : ℕ) (answer : Option Malformed) → Judges bytes limit answer → answer ≡ reason_of bytes limit
judgement_is_reason bytes limit answer judged = one_judgement bytes limit answer (reason_of bytes limit) judged (reason_judges bytes limit)

-- what is answered that way is judged so
pub reason_is_judgement : (bytes : List ℕ) (limit : ℕ) (answer : Option Malformed) → answer ≡ reason_of bytes limit → Judges bytes limit answer
reason_is_judgement bytes limit answer same =
    let P : Option Malformed → Type 0 = λ a. Judges bytes limit a in
    subst P (sym same) (reason_judges bytes limit)

-- a later row of a table of refusals that holds no more
second_row : (a b b' : Bool) (x y : Malformed) (rest : Option Malformed) → (b ≡ false → b' ≡ false) → cond a (Some x) (cond b (Some y) rest) ≡ None → cond a (Some x) (cond b' (Some y) rest) ≡ None
second_row true b b' x y rest less none = none
second_row false true b' x y rest less none = let never : Some y ≡ None = none in cc
second_row false false b' x y rest less none = ap (λ c. cond c (Some y) rest) (less refl) ∙ none

-- a header that a limit lets in is let in by a greater one
pub header_wider : (header : Header) (limit wider : ℕ) → limit ≤ wider → header_reason header limit ≡ None → header_reason header wider ≡ None
header_wider header limit wider more none =
    second_row (ltb (block_length header) 20) (ltb limit (block_length header)) (ltb wider (block_length header)) TooShort TooLong _
    (λ within. le-ltb wider (block_length header) (omega (arith, more, ltb-false limit (block_length header) within))) none

-- a header that a limit lets in is let in by as many bytes as it states
pub header_at_hand : (header : Header) (limit at_hand : ℕ) → block_length header ≤ at_hand → header_reason header limit ≡ None → header_reason header at_hand ≡ None
header_at_hand header limit at_hand within none =
    second_row (ltb (block_length header) 20) (ltb limit (block_length header)) (ltb at_hand (block_length header)) TooShort TooLong _
    (λ _. le-ltb at_hand (block_length header) within) none

front_wider : (short : Bool) (header : Header) (limit wider : ℕ) → limit ≤ wider → cond short (Some TooShort) (header_reason header limit) ≡ None → cond short (Some TooShort) (header_reason header wider) ≡ None
front_wider true header limit wider more none = none
front_wider false header limit wider more none = header_wider header limit wider more none

both_none : (front rest : Option Malformed) → option_or front rest ≡ None → (front ≡ None) × (rest ≡ None)
both_none (Some x) rest none = let never : Some x ≡ None = none in absurd (cc)
both_none None rest none = (refl, none)

-- a block that is well formed under a limit is so under a greater one
pub reason_wider : (bytes : List ℕ) (limit wider : ℕ) → limit ≤ wider → reason_of bytes limit ≡ None → reason_of bytes wider ≡ None
unfolding reason_of
reason_wider bytes limit wider more none =
    let parts = both_none (front_reason bytes limit) (data_reason (data_of bytes)) none in
    let smaller : min (length bytes) limit ≤ min (length bytes) wider = omega arith in
    ap (λ front. option_or front (data_reason (data_of bytes)))
    (front_wider (ltb (length bytes) 20) (header_of bytes) (min (length bytes) limit) (min (length bytes) wider) smaller parts.0)
    ∙ parts.1

-- the same of a judgement
pub judged_wider : (bytes : List ℕ) (limit wider : ℕ) → limit ≤ wider → Judges bytes limit None → Judges bytes wider None
judged_wider bytes limit wider more judged =
    reason_is_judgement bytes wider None (sym (reason_wider bytes limit wider more (sym (judgement_is_reason bytes limit None judged))))

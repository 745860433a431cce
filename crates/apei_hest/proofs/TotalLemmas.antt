-- Each list of bytes is judged.
use Rattle.std.proofs.Common.{◌≡◌, ◌≤◌, ◌<◌, ℕ, zero, suc, ◌+◌, nat_lt, Bool, true, false, cond, List, [], ◌∷◌, ◌++◌, length, take, drop, refl, sym, ap, ◌∙◌, arith, append_assoc, append-nil, Option, Some, None, is_none, unwrap_or, Result, Err}
use Rattle.std.specs.Option.{option_or}
use Rattle.std.proofs.lemmas.List.{length-drop, take-append-drop}
use Rattle.apei_base.proofs.CutLemmas.{cuts_none}
use Rattle.apei_base.specs.Cut.{joined, CutsInto}
use Rattle.apei_base.specs.Number.{number_at}
use Rattle.apei_base.specs.Refusal.{first_of}
use Rattle.apei_hest.specs.Structure.{IsStructure, structure_length, structure_at, type_of, structure_refusal}
use Rattle.apei_hest.specs.Source.{source_of, sources_from}
use Rattle.apei_hest.specs.Refusal.{source_refusal, AreAccepted}
use Rattle.apei_hest.specs.Hest.{refusal_at, counted, answer_at, front_refusal, JudgedBy, IsJudged}
use Rattle.apei_hest.specs.declared.error.HestError.{HestError}
use Rattle.apei_hest.specs.declared.error.HestError.TheVariants.{Truncated, SourceType}
use Rattle.apei_hest.specs.declared.source.Source.{Source}
use Rattle.apei_hest.proofs.JudgeLemmas.{answer_of_refusal}
use Rattle.apei_hest.proofs.LawLemmas.{shifted, not_met, above}
use Rattle.apei_hest.proofs.StructureLemmas.{structure_at_least, front_is_structure}
use Rattle.apei_hest.proofs.WalkLemmas.{refusal_of_source}

-- a walk over bytes that stand at this offset behind these sources comes to an answer
record Comes (said at : ℕ) (before : List Source) (bytes : List ℕ) : Type 0 where
  structures : List (List ℕ)
  rest : List ℕ
  answer : Result (List Source) HestError
  cut : CutsInto IsStructure bytes structures rest
  accepted : AreAccepted before (sources_from at structures)
  answers : answer_at said (before ++ sources_from at structures) (at + length (joined structures)) rest ≡ Some answer

-- the bytes decide at once
comes_now : (said at : ℕ) (before : List Source) (bytes : List ℕ) (answer : Result (List Source) HestError) → answer_at said before at bytes ≡ Some answer → Comes said at before bytes
comes_now said at before bytes answer e =
    let here : at + 0 ≡ at = omega arith in
    record {
      structures = [];
      rest = bytes;
      answer = answer;
      cut = cuts_none IsStructure bytes;
      accepted = tt;
      answers = ap (λ xs. answer_at said xs (at + 0) bytes) (append-nil before) ∙ ap (λ n. answer_at said before n bytes) here ∙ e;
    }

-- an accepted structure begins them, and the bytes behind it decide
comes_later : (said at : ℕ) (before : List Source) (bytes : List ℕ) (n : ℕ) → structure_length bytes ≡ Some n → n ≤ length bytes → source_refusal before (source_of (take n bytes) at) ≡ None → Comes said (at + length (take n bytes)) (before ++ source_of (take n bytes) at ∷ []) (drop n bytes) → Comes said at before bytes
comes_later said at before bytes n long within accepted later =
    let s = take n bytes in
    record {
      structures = s ∷ later.structures;
      rest = later.rest;
      answer = later.answer;
      cut = record {
        whole = sym (take-append-drop n bytes) ∙ ap (λ xs. s ++ xs) later.cut.whole ∙ sym (append_assoc s (joined later.structures) later.rest);
        each = (front_is_structure bytes n long within, later.cut.each);
      };
      accepted = (accepted, later.accepted);
      answers = sym (shifted said at before s later.structures later.rest) ∙ later.answers;
    }

-- a structure that is not refused is whole
whole_by : (b : Bool) (n : Option ℕ) (at size kind : ℕ) → cond b (Some (Truncated at)) (first_of ((is_none n, SourceType at kind) ∷ (nat_lt size (unwrap_or n 0), Truncated at) ∷ [])) ≡ None → (m : ℕ) × (n ≡ Some m) × (m ≤ size)
whole_by true n at size kind e = absurd (cc e)
whole_by false None at size kind e = absurd (cc e)
whole_by false (Some m) at size kind e = (m, refl, above size m (not_met (nat_lt size m) (Truncated at) e))

-- of two refusals none holds
both_none : (first second : Option HestError) → option_or first second ≡ None → (first ≡ None) × (second ≡ None)
both_none None second e = (refl, e)
both_none (Some error) second e = absurd (cc e)

-- the bytes are refused, or a structure begins them
comes_by : (fuel : ℕ) (refusal : Option HestError) (said at : ℕ) (before : List Source) (bytes : List ℕ) → 0 < length bytes → length bytes ≤ suc fuel
    → ((at : ℕ) (before : List Source) (bytes : List ℕ) → length bytes ≤ fuel → Comes said at before bytes)
    → refusal_at before at bytes ≡ refusal → Comes said at before bytes
comes_by fuel (Some error) said at before bytes left within next is =
    comes_now said at before bytes (Err error) (answer_of_refusal said before at bytes error left is)
comes_by fuel None said at before bytes left within next is =
    let parts = both_none (structure_refusal at bytes) (source_refusal before (source_of (structure_at bytes) at)) is in
    let whole = whole_by (nat_lt (length bytes) 4) (structure_length bytes) at (length bytes) (type_of bytes) parts.0 in
    let n = whole.0 in
    let more = structure_at_least bytes n whole.1 in
    let shorter : length (drop n bytes) ≤ fuel = omega (arith, length-drop n bytes, within, more, whole.2) in
    comes_later said at before bytes n whole.1 whole.2 (sym (refusal_of_source before at bytes n parts.0 whole.1) ∙ is)
    (next (at + length (take n bytes)) (before ++ source_of (take n bytes) at ∷ []) (drop n bytes) shorter)

comes : (fuel said at : ℕ) (before : List Source) (bytes : List ℕ) → length bytes ≤ fuel → Comes said at before bytes
comes fuel said at before [] within = comes_now said at before [] (counted said before) refl
comes zero said at before (x ∷ xs) within = let none : ⊥ = omega (arith, within) in absurd none
comes (suc fuel) said at before (x ∷ xs) within =
    comes_by fuel (refusal_at before at (x ∷ xs)) said at before (x ∷ xs) (omega arith) within (comes fuel said) refl

judged_by : (front : Option HestError) (bytes : List ℕ) → (answer : Result (List Source) HestError) × JudgedBy front bytes answer
judged_by (Some error) bytes = (Err error, refl)
judged_by None bytes =
    let w = comes (length (drop 40 bytes)) (number_at 36 4 bytes) 40 [] (drop 40 bytes) (omega arith) in
    (w.answer, (w.structures, w.rest, w.cut, w.accepted, w.answers))

-- there is something that bytes say
pub judged : (bytes : List ℕ) → IsJudged bytes
judged bytes = judged_by (front_refusal bytes) bytes

-- A table is judged in one way, and an accepted one is its structures.
use Rattle.std.proofs.Common.{◌≡◌, ◌≤◌, ◌↔◌, ℕ, ◌+◌, ◌==◌, nat_lt, Bool, true, false, cond, not, List, [], ◌∷◌, ◌++◌, length, take, drop, codes, refl, sym, ap, subst, ◌∙◌, arith, append_assoc, append-nil, Option, Some, None, is_none, unwrap_or, Result, Ok, Err}
use Rattle.std.specs.List.{AllByRecursion}
use Rattle.std.specs.Option.{option_or, option_map}
use Rattle.std.proofs.lemmas.Bool.{le-ltb, eqb-true}
use Rattle.std.proofs.lemmas.Bool.Decides.{nat_tests}
use Rattle.std.proofs.Math.Dec.{eqb-suc-zero}
use Rattle.std.proofs.lemmas.List.{length-append, take_at, drop_at}
use Rattle.apei_base.proofs.TableLemmas.{table_of, refusal_of_table}
use Rattle.apei_base.specs.Cut.{joined, CutsInto}
use Rattle.apei_base.specs.Number.{number_at}
use Rattle.apei_base.specs.Refusal.{first_of}
use Rattle.apei_base.specs.Table.{IsTable, sdt_refusal}
use Rattle.apei_base.specs.declared.sdt.SdtError.{SdtError}
use Rattle.apei_hest.specs.Structure.{IsStructure, structure_length, structure_at, type_of, structure_refusal}
use Rattle.apei_hest.specs.Source.{source_of, sources_from}
use Rattle.apei_hest.specs.Refusal.{source_refusal, AreAccepted}
use Rattle.apei_hest.specs.Hest.{IsHest, refusal_at, counted, refused, answer_at, Walks, front_refusal, JudgedBy, Judges}
use Rattle.apei_hest.specs.declared.error.HestError.{HestError}
use Rattle.apei_hest.specs.declared.error.HestError.TheVariants.{Table, Truncated, SourceType, CountMismatch}
use Rattle.apei_hest.specs.declared.source.Source.{Source}
use Rattle.apei_hest.proofs.StructureLemmas.{structure_at_least, structure_length-append, structure_at-append}
use Rattle.apei_hest.proofs.JudgeLemmas.{front_accepted, judged_by_walk, counted_right}

-- what a walk answers
abbrev Answer : Type 0
Answer = Result (List Source) HestError

-- a structure at the front is whole
structure_refusal-append : (at : ℕ) (s later : List ℕ) → IsStructure s → structure_refusal at (s ++ later) ≡ None
structure_refusal-append at s later is =
    let more = structure_at_least s (length s) is in
    let size = length-append s later in
    let known = structure_length-append s later is in
    let bytes = s ++ later in
    let rows : Option ℕ → Option HestError = λ n. first_of (
    (is_none n, SourceType at (type_of bytes)) ∷ (nat_lt (length bytes) (unwrap_or n 0), Truncated at) ∷ []) in
    ap (λ b. cond b (Some (Truncated at)) (rows (structure_length bytes))) (le-ltb (length bytes) 4 (omega arith))
    ∙ ap rows known
    ∙ ap (λ b. cond b (Some (Truncated at)) None) (le-ltb (length bytes) (length s) (omega arith))

-- an accepted structure at the front does not end a walk
no_answer : (said at : ℕ) (before : List Source) (s later : List ℕ) → IsStructure s → source_refusal before (source_of s at) ≡ None → answer_at said before at (s ++ later) ≡ None
no_answer said at before s later is accepted =
    let more = structure_at_least s (length s) is in
    let size = length-append s later in
    let some : (length (s ++ later) == 0) ≡ false = grind (arith, nat_tests) in
    ap (λ b. cond b (Some (counted said before)) (refused (refusal_at before at (s ++ later)))) some
    ∙ ap (λ o. refused (option_or o (source_refusal before (source_of (structure_at (s ++ later)) at)))) (structure_refusal-append at s later is)
    ∙ ap (λ xs. refused (source_refusal before (source_of xs at))) (structure_at-append s later is)
    ∙ ap refused accepted

-- structures at the front of one text are one
same_front : (s t later later' : List ℕ) → IsStructure s → IsStructure t → s ++ later ≡ t ++ later' → (s ≡ t) × (later ≡ later')
same_front s t later later' is is' e =
    let sizes : Some (length s) ≡ Some (length t) = sym (structure_length-append s later is) ∙ ap structure_length e ∙ structure_length-append t later' is' in
    let size : length s ≡ length t = cc in (
      sym (take_at s later (length s) refl) ∙ ap (take (length s)) e ∙ take_at t later' (length s) (sym size),
      sym (drop_at s later (length s) refl) ∙ ap (drop (length s)) e ∙ drop_at t later' (length s) (sym size),
    )

-- what a walk answers behind a structure
pub shifted : (said at : ℕ) (before : List Source) (s : List ℕ) (xs : List (List ℕ)) (rest : List ℕ) → answer_at said ((before ++ source_of s at ∷ []) ++ sources_from (at + length s) xs) ((at + length s) + length (joined xs)) rest ≡ answer_at said (before ++ sources_from at (s ∷ xs)) (at + length (joined (s ∷ xs))) rest
shifted said at before s xs rest =
    let size = length-append s (joined xs) in
    let place : (at + length s) + length (joined xs) ≡ at + length (joined (s ∷ xs)) = omega arith in
    ap (λ found. answer_at said found ((at + length s) + length (joined xs)) rest) (append_assoc before (source_of s at ∷ []) (sources_from (at + length s) xs))
    ∙ ap (λ n. answer_at said (before ++ sources_from at (s ∷ xs)) n rest) place

behind : (said at : ℕ) (before : List Source) (s : List ℕ) (xs : List (List ℕ)) (rest : List ℕ) (answer : Answer) → answer_at said (before ++ sources_from at (s ∷ xs)) (at + length (joined (s ∷ xs))) rest ≡ Some answer → answer_at said ((before ++ source_of s at ∷ []) ++ sources_from (at + length s) xs) ((at + length s) + length (joined xs)) rest ≡ Some answer
behind said at before s xs rest answer e = shifted said at before s xs rest ∙ e

-- a rest that begins with an accepted structure does not decide
goes_on : (said at : ℕ) (before : List Source) (rest s : List ℕ) (ss : List (List ℕ)) (rest' : List ℕ) (answer : Answer) → IsStructure s → source_refusal before (source_of s at) ≡ None → rest ≡ joined (s ∷ ss) ++ rest' → answer_at said (before ++ []) (at + 0) rest ≡ Some answer → ⊥
goes_on said at before rest s ss rest' answer is accepted e answers =
    let later = joined ss ++ rest' in
    let whole : rest ≡ s ++ later = e ∙ append_assoc s (joined ss) rest' in
    let here : at ≡ at + 0 = omega arith in
    let none : answer_at said (before ++ []) (at + 0) rest ≡ None =
    ap (λ xs. answer_at said xs (at + 0) rest) (append-nil before) ∙ ap (λ n. answer_at said before n rest) (sym here)
    ∙ ap (answer_at said before at) whole ∙ no_answer said at before s later is accepted in
    let apart : None ≡ Some answer = sym none ∙ answers in
    absurd (cc apart)

-- two walks over one text answer alike
once_from : (said at : ℕ) (before : List Source) (xs ys : List (List ℕ)) (rest rest' : List ℕ) (first second : Answer) → AllByRecursion IsStructure xs → AllByRecursion IsStructure ys → AreAccepted before (sources_from at xs) → AreAccepted before (sources_from at ys) → joined xs ++ rest ≡ joined ys ++ rest' → answer_at said (before ++ sources_from at xs) (at + length (joined xs)) rest ≡ Some first → answer_at said (before ++ sources_from at ys) (at + length (joined ys)) rest' ≡ Some second → first ≡ second
once_from said at before [] [] rest rest' first second all all' ok ok' e answers answers' =
    let both : Some first ≡ Some second = sym answers ∙ ap (answer_at said (before ++ []) (at + 0)) e ∙ answers' in
    cc both
once_from said at before [] (y ∷ ys) rest rest' first second all all' ok ok' e answers answers' =
    absurd (goes_on said at before rest y ys rest' first all'.0 ok'.0 e answers)
once_from said at before (x ∷ xs) [] rest rest' first second all all' ok ok' e answers answers' =
    absurd (goes_on said at before rest' x xs rest second all.0 ok.0 (sym e) answers')
once_from said at before (x ∷ xs) (y ∷ ys) rest rest' first second all all' ok ok' e answers answers' =
    let whole : x ++ (joined xs ++ rest) ≡ y ++ (joined ys ++ rest') =
    sym (append_assoc x (joined xs) rest) ∙ e ∙ append_assoc y (joined ys) rest' in
    let front = same_front x y (joined xs ++ rest) (joined ys ++ rest') all.0 all'.0 whole in
    let accepted : AreAccepted (before ++ source_of x at ∷ []) (sources_from (at + length x) ys) =
    subst (λ s. AreAccepted (before ++ source_of s at ∷ []) (sources_from (at + length s) ys)) (sym front.0) ok'.1 in
    let answers_y : answer_at said ((before ++ source_of x at ∷ []) ++ sources_from (at + length x) ys) ((at + length x) + length (joined ys)) rest' ≡ Some second =
    subst (λ s. answer_at said ((before ++ source_of s at ∷ []) ++ sources_from (at + length s) ys) ((at + length s) + length (joined ys)) rest' ≡ Some second)
    (sym front.0) (behind said at before y ys rest' second answers') in
    once_from said (at + length x) (before ++ source_of x at ∷ []) xs ys rest rest' first second all.1 all'.1 ok.1 accepted front.1 (behind said at before x xs rest first answers) answers_y

walks_once : (said : ℕ) (bytes : List ℕ) (first second : Answer) → Walks said bytes first → Walks said bytes second → first ≡ second
walks_once said bytes first second (xs, rest, cuts, ok, answers) (ys, rest', cuts', ok', answers') =
    once_from said 40 [] xs ys rest rest' first second cuts.each cuts'.each ok ok' (sym cuts.whole ∙ cuts'.whole) answers answers'

judged_once : (front : Option HestError) (bytes : List ℕ) (first second : Answer) → JudgedBy front bytes first → JudgedBy front bytes second → first ≡ second
judged_once (Some error) bytes first second j k = j ∙ sym k
judged_once None bytes first second j k = walks_once (number_at 36 4 bytes) (drop 40 bytes) first second j k

-- bytes are judged in one way
pub one_judgement : (bytes : List ℕ) (first second : Answer) → Judges bytes first → Judges bytes second → first ≡ second
one_judgement bytes first second j k = judged_once (front_refusal bytes) bytes first second j k

-- a front that accepts
front_none : (front : Option HestError) (bytes : List ℕ) (found : List Source) → JudgedBy front bytes (Ok found) → (front ≡ None) × Walks (number_at 36 4 bytes) (drop 40 bytes) (Ok found)
front_none None bytes found j = (refl, j)
front_none (Some error) bytes found j = absurd (cc j)

-- no refusal of two
pub neither : (why : Option SdtError) (later : Option HestError) → option_or (option_map Table why) later ≡ None → (why ≡ None) × (later ≡ None)
neither None later e = (refl, e)
neither (Some why) later e = absurd (cc e)

-- a test that is not met
pub not_met : (b : Bool) (error : HestError) → cond b (Some error) None ≡ None → b ≡ false
not_met true error e = absurd (cc e)
not_met false error e = refl

not_false : (b : Bool) → not b ≡ false → b ≡ true
not_false true e = refl
not_false false e = absurd (cc e)

pub above : (n m : ℕ) → nat_lt n m ≡ false → m ≤ n
above n m e = grind (arith, nat_tests)

-- a count that accepts is right
right_count : (b : Bool) (before found : List Source) (error : HestError) → cond b (Ok before) (Err error) ≡ Ok found → (b ≡ true) × (found ≡ before)
right_count true before found error e = (refl, cc e)
right_count false before found error e = absurd (cc e)

-- a refusal does not accept
refused_not_ok : (refusal : Option HestError) (found : List Source) → refused refusal ≡ Some (Ok found) → ⊥
refused_not_ok None found e = absurd (cc e)
refused_not_ok (Some error) found e = absurd (cc e)

-- a walk that accepts has come to the end, and the count is right
accepts : (said : ℕ) (before : List Source) (at : ℕ) (rest : List ℕ) (found : List Source) → answer_at said before at rest ≡ Some (Ok found) → (rest ≡ []) × (found ≡ before) × (said ≡ length before)
accepts said before at [] found e =
    let here : counted said before ≡ Ok found = cc e in
    let right = right_count (said == length before) before found (CountMismatch said (length before)) here in
    (refl, right.1, eqb-true said (length before) right.0)
accepts said before at (x ∷ rest) found e =
    let some : (length (x ∷ rest) == 0) ≡ false = eqb-suc-zero (length rest) in
    let refusal : answer_at said before at (x ∷ rest) ≡ refused (refusal_at before at (x ∷ rest)) =
    ap (λ b. cond b (Some (counted said before)) (refused (refusal_at before at (x ∷ rest)))) some in
    absurd (refused_not_ok (refusal_at before at (x ∷ rest)) found (sym refusal ∙ e))

hest_of_walk : (bytes : List ℕ) (found : List Source) → IsTable (codes "HEST") bytes → 40 ≤ length bytes → Walks (number_at 36 4 bytes) (drop 40 bytes) (Ok found) → IsHest bytes found
hest_of_walk bytes found table long (structures, rest, cuts, ok, answers) =
    let end = accepts (number_at 36 4 bytes) (sources_from 40 structures) (40 + length (joined structures)) rest found answers in
    record {
      table = table;
      counted = long;
      structures = structures;
      cut = subst (CutsInto IsStructure (drop 40 bytes) structures) end.0 cuts;
      sources = end.1;
      accepted = subst (AreAccepted []) (sym end.1) ok;
      as_many = end.2 ∙ ap length (sym end.1);
    }

-- an accepted table is a HEST
pub hest_of_judgement : (bytes : List ℕ) (found : List Source) → Judges bytes (Ok found) → IsHest bytes found
hest_of_judgement bytes found j =
    let front = front_none (front_refusal bytes) bytes found j in
    let parts = neither (sdt_refusal (codes "HEST") bytes) (cond (nat_lt (length bytes) 40) (Some (Truncated 36)) None) front.0 in
    hest_of_walk bytes found (table_of (codes "HEST") bytes parts.0) (above (length bytes) 40 (not_met (nat_lt (length bytes) 40) (Truncated 36) parts.1)) front.1

-- a HEST is accepted
pub judgement_of_hest : (bytes : List ℕ) (found : List Source) → IsHest bytes found → Judges bytes (Ok found)
judgement_of_hest bytes found h =
    let said = number_at 36 4 bytes in
    let answers : answer_at said (sources_from 40 h.structures) (40 + length (joined h.structures)) [] ≡ Some (Ok found) =
    ap (λ xs. Some (counted said xs)) (sym h.sources) ∙ ap (λ answer. Some answer) (counted_right said found h.as_many) in
    judged_by_walk bytes (Ok found) (front_accepted bytes (refusal_of_table (codes "HEST") bytes h.table) h.counted)
    (h.structures, [], h.cut, subst (AreAccepted []) h.sources h.accepted, answers)

-- a table is accepted exactly where it is a HEST
pub accepted_is_hest : (bytes : List ℕ) (found : List Source) → Judges bytes (Ok found) ↔ IsHest bytes found
accepted_is_hest bytes found = (hest_of_judgement bytes found, judgement_of_hest bytes found)

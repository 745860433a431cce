-- Structures that are walked over, one more at a time.
use Rattle.std.proofs.Common.{◌≡◌, ◌≤◌, ◌<◌, ℕ, ◌+◌, ◌-◌, List, [], ◌∷◌, ◌++◌, length, take, drop, refl, sym, ap, ◌∙◌, arith, append_assoc, append-nil, Some, None, unwrap_or}
use Rattle.std.specs.Option.{option_or}
use Rattle.std.proofs.lemmas.List.{length-append, length-drop, length-take-le, length_push}
use Rattle.std.proofs.lemmas.List.Concat.{flat_map-append}
use Rattle.apei_base.specs.Cut.{joined}
use Rattle.apei_base.proofs.CutLemmas.{cuts_more, cuts_length}
use Rattle.apei_hest.specs.Structure.{IsStructure, structure_length, structure_at, structure_refusal}
use Rattle.apei_hest.specs.Source.{source_of, sources_from}
use Rattle.apei_hest.specs.Refusal.{source_refusal, AreAccepted}
use Rattle.apei_hest.specs.Hest.{refusal_at}
use Rattle.apei_hest.specs.Admitted.{IsWalked, StopsWith}
use Rattle.apei_hest.specs.declared.error.HestError.{HestError}
use Rattle.apei_hest.specs.declared.source.Source.{Source}
use Rattle.apei_hest.proofs.StructureLemmas.{structure_at_least, front_is_structure}

-- one more structure behind others
pub sources_from_push : (at : ℕ) (xs : List (List ℕ)) (s : List ℕ) → sources_from at (xs ++ s ∷ []) ≡ sources_from at xs ++ source_of s (at + length (joined xs)) ∷ []
sources_from_push at [] s = let same : at ≡ at + 0 = omega arith in ap (λ n. source_of s n ∷ []) same
sources_from_push at (x ∷ xs) s =
    let size = length-append x (joined xs) in
    let place : (at + length x) + length (joined xs) ≡ at + length (joined (x ∷ xs)) = omega arith in
    ap (λ later. source_of x at ∷ later) (sources_from_push (at + length x) xs s)
    ∙ ap (λ n. source_of x at ∷ (sources_from (at + length x) xs ++ source_of s n ∷ [])) place

-- one more source that is not refused behind others
pub accepted_push : (before found : List Source) (s : Source) → AreAccepted before found → source_refusal (before ++ found) s ≡ None → AreAccepted before (found ++ s ∷ [])
accepted_push before [] s all here = (ap (λ xs. source_refusal xs s) (sym (append-nil before)) ∙ here, tt)
accepted_push before (x ∷ found) s all here =
    (all.0, accepted_push (before ++ x ∷ []) found s all.1 (ap (λ xs. source_refusal xs s) (append_assoc before (x ∷ []) found) ∙ here))

joined_push : (xs : List (List ℕ)) (x : List ℕ) → length (joined (xs ++ x ∷ [])) ≡ length (joined xs) + length x
joined_push xs x =
    ap length (flat_map-append (λ (piece : List ℕ). piece) xs (x ∷ [])) ∙ length-append (joined xs) (x ++ [])
    ∙ ap (λ ys. length (joined xs) + length ys) (append-nil x)

-- no structure yet
pub walked_none : (bytes : List ℕ) → IsWalked bytes [] bytes []
walked_none bytes = record { cut = record { whole = refl; each = tt }; sources = refl; accepted = tt; few = omega arith }

-- one more structure, of n bytes
pub walked_more : (bytes : List ℕ) (structures : List (List ℕ)) (rest : List ℕ) (found : List Source) (n : ℕ) → structure_length rest ≡ Some n → n ≤ length rest → source_refusal found (source_of (take n rest) (40 + length (joined structures))) ≡ None → IsWalked bytes structures rest found → IsWalked bytes (structures ++ take n rest ∷ []) (drop n rest) (found ++ source_of (take n rest) (40 + length (joined structures)) ∷ [])
walked_more bytes structures rest found n long within here w =
    let source = source_of (take n rest) (40 + length (joined structures)) in
    let more = structure_at_least rest n long in
    let size = joined_push structures (take n rest) in
    let taken = length-take-le n rest within in
    let count = length_push found source in
    record {
      cut = cuts_more IsStructure n bytes structures rest (front_is_structure rest n long within) w.cut;
      sources = ap (λ xs. xs ++ source ∷ []) w.sources ∙ sym (sources_from_push 40 structures (take n rest));
      accepted = accepted_push [] found source w.accepted here;
      few = omega (arith, w.few);
    }

-- no whole structure begins the rest
pub refused_by_structure : (before : List Source) (at : ℕ) (rest : List ℕ) (error : HestError) → structure_refusal at rest ≡ Some error → refusal_at before at rest ≡ Some error
refused_by_structure before at rest error e = ap (λ o. option_or o (source_refusal before (source_of (structure_at rest) at))) e

-- the source of a whole structure decides
pub refusal_of_source : (before : List Source) (at : ℕ) (rest : List ℕ) (n : ℕ) → structure_refusal at rest ≡ None → structure_length rest ≡ Some n → refusal_at before at rest ≡ source_refusal before (source_of (take n rest) at)
refusal_of_source before at rest n none e =
    ap (λ o. option_or o (source_refusal before (source_of (structure_at rest) at))) none
    ∙ ap (λ m. source_refusal before (source_of (take (unwrap_or m 0) rest) at)) e

-- where the rest of a table begins
pub walked_offset : (bytes : List ℕ) (structures : List (List ℕ)) (rest : List ℕ) (found : List Source) → 40 ≤ length bytes → IsWalked (drop 40 bytes) structures rest found → length bytes - length rest ≡ 40 + length (joined structures)
walked_offset bytes structures rest found counted w =
    let size = cuts_length IsStructure (drop 40 bytes) structures rest w.cut in
    let behind = length-drop 40 bytes in
    omega arith

-- a walk over a table that stops
pub stops : (bytes : List ℕ) (structures : List (List ℕ)) (rest : List ℕ) (before : List Source) (error : HestError) → 40 ≤ length bytes → IsWalked (drop 40 bytes) structures rest before → 0 < length rest → refusal_at before (length bytes - length rest) rest ≡ Some error → StopsWith (drop 40 bytes) error
stops bytes structures rest before error counted w left refused = record {
  structures = structures;
  rest = rest;
  before = before;
  walked = w;
  left = left;
  refused = ap (λ at. refusal_at before at rest) (sym (walked_offset bytes structures rest before counted w)) ∙ refused;
}

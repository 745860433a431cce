-- Bytes that are cut into pieces, one more at a time.
use Rattle.std.proofs.Common.{◌≡◌, ◌+◌, ℕ, List, [], ◌∷◌, ◌++◌, length, take, drop, refl, sym, ap, ◌∙◌, append_assoc, append-nil}
use Rattle.std.specs.List.{flat_map, AllByRecursion}
use Rattle.std.proofs.lemmas.List.{length-append, take-append-drop}
use Rattle.std.proofs.lemmas.List.Concat.{flat_map-append}
use Rattle.apei_base.specs.Cut.{joined, CutsInto}

-- what holds of each piece and of one more
pub all_push : (P : List ℕ → Type 0) (xs : List (List ℕ)) (y : List ℕ) → AllByRecursion P xs → P y → AllByRecursion P (xs ++ y ∷ [])
all_push P [] y all here = (here, tt)
all_push P (x ∷ xs) y all here = (all.0, all_push P xs y all.1 here)

-- no piece yet
pub cuts_none : (P : List ℕ → Type 0) (bytes : List ℕ) → CutsInto P bytes [] bytes
cuts_none P bytes = record { whole = refl; each = tt }

-- one more piece, of n bytes
pub cuts_more : (P : List ℕ → Type 0) (n : ℕ) (bytes : List ℕ) (pieces : List (List ℕ)) (rest : List ℕ) → P (take n rest) → CutsInto P bytes pieces rest → CutsInto P bytes (pieces ++ take n rest ∷ []) (drop n rest)
cuts_more P n bytes pieces rest is c =
    record {
      whole =
          c.whole ∙ ap (λ xs. flat_map (λ (piece : List ℕ). piece) pieces ++ xs) (sym (take-append-drop n rest))
          ∙ sym (append_assoc (flat_map (λ (piece : List ℕ). piece) pieces) (take n rest) (drop n rest))
          ∙ ap (λ xs. flat_map (λ (piece : List ℕ). piece) pieces ++ xs ++ drop n rest) (sym (append-nil (take n rest)))
          ∙ ap (λ xs. xs ++ drop n rest) (sym (flat_map-append (λ (piece : List ℕ). piece) pieces (take n rest ∷ [])));
      each = all_push P pieces (take n rest) c.each is;
    }

-- the pieces and the rest are as long as the bytes
pub cuts_length : (P : List ℕ → Type 0) (bytes : List ℕ) (pieces : List (List ℕ)) (rest : List ℕ) → CutsInto P bytes pieces rest → length bytes ≡ length (joined pieces) + length rest
cuts_length P bytes pieces rest c = ap length c.whole ∙ length-append (joined pieces) rest

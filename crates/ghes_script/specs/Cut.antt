-- How bytes are cut into lines (own choice).
use Rattle.std.specs.Prelude.{◌≡◌, ◌≢◌, ◌<◌, ℕ, List, [], ◌∷◌, ◌++◌, length, ◌⊎◌}
use Rattle.std.specs.List.{AllByRecursion}

-- The bytes are cut at the first of these marks: what stands before it, and what stands behind. The whole stands before,
-- where there is no mark.
pub record IsCutAt (mark : ℕ) (bytes front rest : List ℕ) : Type 0 where
  pub unmarked : AllByRecursion (λ byte. byte ≢ mark) front
  pub cut : (bytes ≡ front ++ mark ∷ rest) ⊎ ((bytes ≡ front) × (rest ≡ []))

-- the bytes are lines of these texts, each ended by a line feed, which the last may lack
abbrev pub AreLinesOf : List ℕ → List (List ℕ) → Type 0
AreLinesOf bytes [] = bytes ≡ []
AreLinesOf bytes (text ∷ texts) = (0 < length bytes) × (rest : List ℕ) × IsCutAt 10 bytes text rest × AreLinesOf rest texts

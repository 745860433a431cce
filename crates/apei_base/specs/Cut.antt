-- Bytes that are pieces, one behind the other.
use Rattle.std.specs.Prelude.{◌≡◌, ℕ, List, ◌++◌}
use Rattle.std.specs.List.{flat_map, AllByRecursion}

-- the bytes of pieces, one behind the other
abbrev pub joined : List (List ℕ) → List ℕ
joined pieces = flat_map (λ piece. piece) pieces

-- The bytes are these pieces, each of its form, one behind the other, and then a rest.
pub record CutsInto (IsPiece : List ℕ → Type 0) (bytes : List ℕ) (pieces : List (List ℕ)) (rest : List ℕ) : Type 0 where
  pub whole : bytes ≡ joined pieces ++ rest
  pub each : AllByRecursion IsPiece pieces

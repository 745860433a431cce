-- A text that grows behind what stood before (own choice).
use Rattle.std.specs.Prelude.{ℕ, List}

-- what stood before, and what was added behind it
pub record Grown : Type 0 where
  pub front : List ℕ
  pub added : List ℕ

-- What contracts see of memory for an image.
use Rattle.std.specs.Prelude.{ℕ, List}

-- a buffer: its bytes, and how many it has room for (own choice)
pub record BufferSeen : Type 0 where
  pub bytes : List ℕ
  pub room : ℕ

-- What the tables and the settings of a script say of its sources, contexts and slots.
use Rattle.std.specs.Prelude.{ℕ, Bool, List}
use Rattle.std.specs.List.{range_with_len, filter}
use Rattle.std.specs.Prelude.{◌==◌}

-- A source is named by its position, from 0 on, and a context by its number, from 0 on.
pub record Plan : Type 0 where
  -- how many sources there are
  pub sources : ℕ
  -- the id of a source, by which texts name it
  pub id : ℕ → ℕ
  -- the limit of a source's blocks, in bytes
  pub limit : ℕ → ℕ
  -- the context that serves a source
  pub server : ℕ → ℕ
  -- whether a source has a read ack register
  pub has_ack : ℕ → Bool
  -- the ack cell of a source after so many acknowledgements
  pub cell : ℕ → ℕ → ℕ
  -- how many contexts there are
  pub contexts : ℕ
  -- how many packets may be pending at once
  pub slots : ℕ
  -- how many places the report cache has: with none there is no hit, and each delivery is new
  pub places : ℕ

-- the sources, in table order
abbrev pub all_sources : Plan → List ℕ
all_sources plan = range_with_len 0 plan.sources

-- the contexts, in order
abbrev pub all_contexts : Plan → List ℕ
all_contexts plan = range_with_len 0 plan.contexts

-- the sources that a context serves, in table order
abbrev pub served : Plan → ℕ → List ℕ
served plan c = filter (λ s. plan.server s == c) (all_sources plan)

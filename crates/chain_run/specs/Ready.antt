-- Passes that go on pushing, and the decoder beside them.
use Rattle.std.specs.Prelude.{◌≡◌, ℕ, ◌+◌, ◌^◌, ◌<◌, ◌≤◌, List, length, slice_index_or}
use Rattle.atomic_table.specs.Seated.{TableId}
use Rattle.ghes_rule.specs.declared.views.Stage.TheVariants.{Idle}
use Rattle.ghes_rule.specs.declared.views.Hand.TheVariants.{Bare}
use Rattle.ghes_rule.specs.Seen.{PassSeen, WorkSeen}

-- the pass of that number of the shared object holds no claim, has made so many at most, and its packets have room for 164 bytes (own choice)
pub record IsReady (z : TableId) (most i : ℕ) (x : PassSeen) : Type 0 where
  pub table : x.table ≡ z
  pub idle : x.view.stage ≡ Idle
  pub number : x.view.number ≡ i
  pub room : x.view.room ≡ 164
  pub claims : length x.view.claims ≤ most

-- n passes by number, each of which is ready (own choice)
pub record AreReady (z : TableId) (most n : ℕ) (xs : List PassSeen) : Type 0 where
  pub many : length xs ≡ n
  pub each : (i : ℕ) (d : PassSeen) → i < length xs → IsReady z most i (slice_index_or xs i d)

-- the pass has made so many claims more at most, and holds none (own choice)
pub record GoesOn (x x' : PassSeen) (more : ℕ) : Type 0 where
  pub table : x'.table ≡ x.table
  pub idle : x'.view.stage ≡ Idle
  pub number : x'.view.number ≡ x.view.number
  pub room : x'.view.room ≡ x.view.room
  pub claims : length x'.view.claims ≤ length x.view.claims + more

-- the pass may make so many claims more (own choice)
pub record CanPush (z : TableId) (more : ℕ) (x : PassSeen) : Type 0 where
  pub table : x.table ≡ z
  pub idle : x.view.stage ≡ Idle
  pub room : x.view.room ≡ 164
  pub few : length x.view.claims + more < 2 ^ 32

-- the decoder has nothing in hand, and as many passes (own choice)
pub record StaysBare (w w' : WorkSeen) : Type 0 where
  pub table : w'.table ≡ w.table
  pub bare : w'.view.held ≡ Bare
  pub passes : w'.view.passes ≡ w.view.passes

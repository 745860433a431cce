-- A bus each of whose accesses has one outcome.
use Rattle.std.specs.Prelude.{◌≡◌, ℕ, List, length}
use Rattle.apei_base.specs.Bus.{Reach, Access, Reads, Writes, Copies}

-- Each access has one outcome: in one state a read of a reach gives one value, and a copy of so many bytes from an address
-- one list; each of these, and a write of a value to a reach, leads to one state (own choice).
pub record IsDetermined {S : Type 0} (step : S → Access → S → Type 0) : Type 0 where
  pub reads : (before here there : S) (reach : Reach) (n m : ℕ)
      → step before (Reads reach n) here → step before (Reads reach m) there → (n ≡ m) × (here ≡ there)
  pub writes : (before here there : S) (reach : Reach) (value : ℕ)
      → step before (Writes reach value) here → step before (Writes reach value) there → here ≡ there
  pub copies : (before here there : S) (address : ℕ) (bytes others : List ℕ) → length bytes ≡ length others
      → step before (Copies address bytes) here → step before (Copies address others) there → (bytes ≡ others) × (here ≡ there)

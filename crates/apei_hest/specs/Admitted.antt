-- Sources that were read so far, and one more.
use Rattle.std.specs.Prelude.{◌≡◌, ◌<◌, ◌≤◌, ℕ, ◌+◌, List, [], length, Some}
use Rattle.std.specs.Ordering.{nat_cmp}
use Rattle.std.specs.BTreeSet.{BTreeSet, contains}
use Rattle.apei_base.specs.Cut.{joined, CutsInto}
use Rattle.apei_hest.specs.Hest.{refusal_at}
use Rattle.apei_hest.specs.Refusal.{enabled, has_id, AreAccepted}
use Rattle.apei_hest.specs.Source.{sources_from}
use Rattle.apei_hest.specs.Structure.{IsStructure}
use Rattle.apei_hest.specs.declared.error.HestError.{HestError}
use Rattle.apei_hest.specs.declared.source.Source.{Source}

-- The set has the ids of the generic sources, and so many of these are enabled.
pub record Knows (ids : BTreeSet ℕ) (count : ℕ) (found : List Source) : Type 0 where
  pub ids_of : (id : ℕ) → contains nat_cmp ids id ≡ has_id id found
  pub count_of : count ≡ length (enabled found)

-- The bytes from offset 40 of a table on are structures with these sources, none of which is refused, and then a rest.
pub record IsWalked (bytes : List ℕ) (structures : List (List ℕ)) (rest : List ℕ) (found : List Source) : Type 0 where
  pub cut : CutsInto IsStructure bytes structures rest
  pub sources : found ≡ sources_from 40 structures
  pub accepted : AreAccepted [] found
  pub few : length found ≤ length (joined structures)

-- A walk over the bytes is refused with this error.
pub record StopsWith (bytes : List ℕ) (error : HestError) : Type 0 where
  pub structures : List (List ℕ)
  pub rest : List ℕ
  pub before : List Source
  pub walked : IsWalked bytes structures rest before
  pub left : 0 < length rest
  pub refused : refusal_at before (40 + length (joined structures)) rest ≡ Some error

-- The bytes are structures with these sources, none of which is refused, and no rest.
abbrev pub IsWalkedWhole : List ℕ → List Source → Type 0
IsWalkedWhole bytes found = (structures : List (List ℕ)) × IsWalked bytes structures [] found

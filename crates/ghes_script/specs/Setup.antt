-- What a script is read for, and which source a word names (own choice).
use Rattle.std.specs.Prelude.{◌≡◌, ℕ, ◌+◌, ◌<◌, ◌==◌, if◌then◌else◌, Bool, List, [], ◌∷◌, length, slice_index_or, Option, Some, None, Result, Ok, Err}
use Rattle.std.specs.Ordering.{nat_cmp}
use Rattle.std.specs.BTreeMap.{BTreeMap, get}
use Rattle.ghes_script.specs.Number.{number, or_kind, ◌>>=◌}
use Rattle.ghes_script.specs.declared.error.ScriptKind.{ScriptKind}
use Rattle.ghes_script.specs.declared.error.ScriptKind.TheVariants.{Source}
use Rattle.ghes_script.specs.declared.setup.Found.{Found}
use Rattle.ghes_script.specs.declared.setup.SourceName.{SourceName}

-- the enabled sources, in their order, and whether there is an injection table
pub record Setup : Type 0 where
  pub names : List SourceName
  pub injection : Bool

abbrev pub setup_of : List SourceName → Bool → Setup
setup_of names injection = record { names = names; injection = injection }

-- the first of the sources with this id, where the first of all has this position
abbrev pub found_from : ℕ → List SourceName → ℕ → Option Found
found_from at [] id = None
found_from at (name ∷ names) id =
    if name.id == id then Some (record { at = at; v2 = name.v2 }) else found_from (at + 1) names id

-- the first of the sources with this id, positions counted from 0
abbrev pub found_of : List SourceName → ℕ → Option Found
found_of names id = found_from 0 names id

-- a map has the sources by their ids
abbrev pub Knows : BTreeMap ℕ Found → List SourceName → Type 0
Knows by_id names = (id : ℕ) → get nat_cmp by_id id ≡ found_of names id

-- a table has, at each of its places, what a map has of that id
abbrev pub IsTableOf : List (Option Found) → BTreeMap ℕ Found → Type 0
IsTableOf table by_id = (id : ℕ) → id < length table → slice_index_or table id None ≡ get nat_cmp by_id id

-- the source that a word names: no number is the one kind, and a number that is no such id the other
unfoldable pub named : Setup → List ℕ → Result Found ScriptKind
named setup word = do
  id ← number word
  or_kind Source (found_of setup.names id)

-- its position
unfoldable pub source_of : Setup → List ℕ → Result ℕ ScriptKind
source_of setup word = do
  found ← named setup word
  Ok found.at

-- its position, where it has a read ack register
unfoldable pub acked_source_of : Setup → List ℕ → Result ℕ ScriptKind
acked_source_of setup word = do
  found ← named setup word
  if found.v2 then Ok found.at else Err Source

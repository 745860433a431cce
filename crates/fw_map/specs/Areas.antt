-- The areas of the sources and of the injection table.
use Rattle.std.specs.Prelude.{◌≡◌, ◌≤◌, ◌<◌, ℕ, ◌^◌, List, [], ◌∷◌, ◌++◌, map, length, take, slice_index_or, Option, Some, None}
use Rattle.apei_base.specs.Region.{access_width}
use Rattle.apei_hest.specs.Source.{limit_of}
use Rattle.apei_hest.specs.declared.source.Ghes.{Ghes}
use Rattle.apei_einj.specs.declared.entry.Entry.{Entry}
use Rattle.fw_map.specs.Placement.{place_at, IsLowest, IsPlaced, ArePlaced, ArePlacedBehind}
use Rattle.fw_map.specs.declared.error.FwError.{FwError}
use Rattle.fw_map.specs.declared.error.FwError.TheVariants.{Overlap, Room, Narrow, OutOfMemory}
use Rattle.fw_map.specs.declared.map.Trigger.{Trigger}
use Rattle.fw_map.specs.declared.run.Run.{Run}

-- how long areas are, in bytes
abbrev pub lengths_of : List Run → List ℕ
lengths_of areas = map (λ area. area.bytes) areas

-- the area of a source is as long as the source's limit (own choice)
abbrev pub limits_of : List Ghes → List ℕ
limits_of sources = map limit_of sources

-- the areas of the injection table: the trigger table and the trigger cell
abbrev pub trigger_areas : Option Trigger → List Run
trigger_areas None = []
trigger_areas (Some trigger) = trigger.table ∷ trigger.cell ∷ []

-- the trigger table has 48 bytes, and the trigger cell 4, where there is an injection table (own choice)
abbrev pub trigger_lengths : Option (List Entry) → List ℕ
trigger_lengths None = []
trigger_lengths (Some entries) = 48 ∷ 4 ∷ []

-- how many addresses the status address register of a source can say: 2 to the power of the width of one access
-- (ACPI 6.5, 18.3.2.7)
abbrev pub reach_of_status : Ghes → ℕ
reach_of_status ghes = 2 ^ access_width ghes.status

-- the status address register of each source can say where its area is
abbrev pub Fit : List Ghes → List Run → Type 0
Fit sources areas = (k : ℕ) (no_source : Ghes) (no_area : Run) → k < length areas
    → (slice_index_or areas k no_area).first < reach_of_status (slice_index_or sources k no_source)

-- These are the areas of the sources, in order: each is as long as the limit, at its place, and fits the register.
pub record AreAreasOf (runs : List Run) (sources : List Ghes) (areas : List Run) : Type 0 where
  pub limits : lengths_of areas ≡ limits_of sources
  pub placed : ArePlaced runs areas
  pub fit : Fit sources areas

-- The area of the source with this id would stand at the place of a number, which its status address register cannot say.
pub record IsTooNarrow (runs : List Run) (ghes : Ghes) (number id : ℕ) : Type 0 where
  pub lowest : IsLowest runs (limit_of ghes) number
  pub too_high : reach_of_status ghes ≤ place_at number
  pub id_is : id ≡ ghes.id

-- The area of a source does not fit its status address register, and it is the first such source: those before it have
-- their areas, which fit (own choice).
pub record IsNarrow (runs : List Run) (sources : List Ghes) (id : ℕ) : Type 0 where
  pub areas : List Run
  pub number : ℕ
  pub within : length areas < length sources
  pub before : AreAreasOf runs (take (length areas) sources) areas
  pub narrow : (none : Ghes) → IsTooNarrow (runs ++ areas) (slice_index_or sources (length areas) none) number id

-- One more area: that of a source, where these runs are taken.
pub record IsAreaOf (runs : List Run) (ghes : Ghes) (area : Run) : Type 0 where
  pub limit : area.bytes ≡ limit_of ghes
  pub placed : IsPlaced runs area
  pub fits : area.first < reach_of_status ghes

-- why one more source has no area
abbrev pub IsNarrowAt : List Run → Ghes → FwError → Type 0
IsNarrowAt runs ghes (Overlap first second space address) = ⊥
IsNarrowAt runs ghes Room = ⊥
IsNarrowAt runs ghes (Narrow id) = (number : ℕ) × IsTooNarrow runs ghes number id
IsNarrowAt runs ghes OutOfMemory = Unit {0}

-- why sources have no areas
abbrev pub HaveNoAreas : List Run → List Ghes → FwError → Type 0
HaveNoAreas runs sources (Overlap first second space address) = ⊥
HaveNoAreas runs sources Room = ⊥
HaveNoAreas runs sources (Narrow id) = IsNarrow runs sources id
HaveNoAreas runs sources OutOfMemory = Unit {0}

-- the areas of the injection table stand behind the runs that are taken, where there is such a table
abbrev pub IsTriggerOf : List Run → Option (List Entry) → Option Trigger → Type 0
IsTriggerOf runs None None = Unit {0}
IsTriggerOf runs None (Some trigger) = ⊥
IsTriggerOf runs (Some entries) None = ⊥
IsTriggerOf runs (Some entries) (Some trigger) = ArePlacedBehind runs trigger.table trigger.cell

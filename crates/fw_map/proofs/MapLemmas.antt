-- A map from its parts, and why there is none.
use Rattle.std.proofs.Common.{◌≡◌, ℕ, List, [], ◌∷◌, ◌++◌, Option, Some, None, refl, sym, ap, ◌∙◌, subst}
use Rattle.std.proofs.lemmas.List.{append_assoc, append-nil}
use Rattle.apei_hest.specs.Source.{limit_of}
use Rattle.apei_hest.specs.declared.source.Ghes.{Ghes}
use Rattle.apei_einj.specs.declared.entry.Entry.{Entry}
use Rattle.fw_map.specs.Areas.{AreAreasOf, HaveNoAreas, IsNarrow, IsTooNarrow, IsTriggerOf, lengths_of, trigger_areas, trigger_lengths}
use Rattle.fw_map.specs.Map.{IsMapOf, IsRefusedWith}
use Rattle.fw_map.specs.Overlap.{AreApart, Overlaps}
use Rattle.fw_map.specs.Placement.{ArePlaced}
use Rattle.fw_map.specs.Registers.{registers_of, entries_of, runs_of}
use Rattle.fw_map.specs.Runs.{is_taken}
use Rattle.fw_map.specs.Taken.{TakeSame}
use Rattle.fw_map.specs.declared.error.FwError.{FwError}
use Rattle.fw_map.specs.declared.error.FwError.TheVariants.{Overlap, Room, Narrow, OutOfMemory}
use Rattle.fw_map.specs.declared.map.Map.{Map}
use Rattle.fw_map.specs.declared.map.Trigger.{Trigger}
use Rattle.fw_map.specs.declared.run.Register.{Register}
use Rattle.fw_map.specs.declared.run.Run.{Run}
use Rattle.fw_map.proofs.AreaLemmas.{all_placed_same, placed_same, placed_more, same_with, lowest_same}

-- registers that overlap have no map
pub refused_overlap : (sources : List Ghes) (einj : Option (List Entry)) (error : FwError) → Overlaps (registers_of sources (entries_of einj)) error → IsRefusedWith sources einj error
refused_overlap sources einj (Overlap first second space address) found = found
refused_overlap sources einj Room found = found
refused_overlap sources einj (Narrow id) found = absurd found
refused_overlap sources einj OutOfMemory found = tt

-- areas of sources are the same where the same is taken
pub areas_same : (one other : List Run) (sources : List Ghes) (areas : List Run) → TakeSame one other → AreAreasOf one sources areas → AreAreasOf other sources areas
areas_same one other sources areas same found = record { limits = found.limits; placed = all_placed_same one other areas same found.placed; fit = found.fit }

narrow_same : (one other : List Run) (ghes : Ghes) (number id : ℕ) → TakeSame one other → IsTooNarrow one ghes number id → IsTooNarrow other ghes number id
narrow_same one other ghes number id same narrow = record {
  lowest = lowest_same one other (limit_of ghes) number same narrow.lowest;
  too_high = narrow.too_high;
  id_is = narrow.id_is;
}

-- registers that do not overlap have no map where a source has no area
pub refused_areas : (sources : List Ghes) (einj : Option (List Entry)) (registers : List Register) (runs : List Run) (error : FwError) → registers ≡ registers_of sources (entries_of einj) → AreApart registers
    → TakeSame runs (runs_of registers) → HaveNoAreas runs sources error → IsRefusedWith sources einj error
refused_areas sources einj registers runs (Overlap first second space address) are apart same none = absurd none
refused_areas sources einj registers runs Room are apart same none = none
refused_areas sources einj registers runs (Narrow id) are apart same none = (
  subst AreApart are apart,
  subst (λ all. IsNarrow (runs_of all) sources id) are (record {
    areas = none.areas;
    number = none.number;
    within = none.within;
    before = areas_same runs (runs_of registers) _ none.areas same none.before;
    narrow = λ no_source. narrow_same (runs ++ none.areas) (runs_of registers ++ none.areas) _ none.number id (same_with runs (runs_of registers) none.areas same) (none.narrow no_source);
  }),
)
refused_areas sources einj registers runs OutOfMemory are apart same none = tt

-- the areas of the injection table stand behind those of the sources
trigger_placed : (runs areas taken : List Run) (einj : Option (List Entry)) (trigger : Option Trigger) → ArePlaced runs areas → TakeSame taken (runs ++ areas) → IsTriggerOf taken einj trigger
    → (lengths_of (trigger_areas trigger) ≡ trigger_lengths einj) × ArePlaced runs (areas ++ trigger_areas trigger)
trigger_placed runs areas taken None None placed same is = (refl, subst (ArePlaced runs) (sym (append-nil areas)) placed)
trigger_placed runs areas taken None (Some trigger) placed same is = absurd is
trigger_placed runs areas taken (Some entries) None placed same is = absurd is
trigger_placed runs areas taken (Some entries) (Some trigger) placed same is =
    let first = placed_more runs areas trigger.table placed (placed_same taken (runs ++ areas) trigger.table same is.table_placed) in
    let behind : TakeSame (taken ++ trigger.table ∷ []) (runs ++ (areas ++ trigger.table ∷ [])) =
    λ area. same_with taken (runs ++ areas) (trigger.table ∷ []) same area ∙ ap (λ all. is_taken all area) (append_assoc runs areas (trigger.table ∷ [])) in (
      ap (λ n. n ∷ trigger.cell.bytes ∷ []) is.table_bytes ∙ ap (λ n. 48 ∷ n ∷ []) is.cell_bytes,
      subst (ArePlaced runs) (append_assoc areas (trigger.table ∷ []) (trigger.cell ∷ []))
          (placed_more runs (areas ++ trigger.table ∷ []) trigger.cell first (placed_same (taken ++ trigger.table ∷ []) (runs ++ (areas ++ trigger.table ∷ [])) trigger.cell behind is.cell_placed)),
    )

-- a map from its parts
pub map_is : (sources : List Ghes) (einj : Option (List Entry)) (map : Map) (runs taken : List Run) → map.registers.items ≡ registers_of sources (entries_of einj) → AreApart map.registers.items
    → TakeSame runs (runs_of map.registers.items) → AreAreasOf runs sources map.areas.items → TakeSame taken (runs ++ map.areas.items) → IsTriggerOf taken einj map.trigger → IsMapOf sources einj map
map_is sources einj map runs taken are apart same areas also trigger =
    let found = areas_same runs (runs_of map.registers.items) sources map.areas.items same areas in
    let behind : TakeSame taken (runs_of map.registers.items ++ map.areas.items) = λ area. also area ∙ same_with runs (runs_of map.registers.items) map.areas.items same area in
    let both = trigger_placed (runs_of map.registers.items) map.areas.items taken einj map.trigger found.placed behind trigger in
    record { registers = are; apart = apart; areas = found; trigger = both.0; placed = both.1 }

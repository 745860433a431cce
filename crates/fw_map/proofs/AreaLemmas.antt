-- Areas, placed one after another.
use Rattle.std.proofs.Common.{◌≡◌, ◌≤◌, ◌<◌, ◌+◌, ◌-◌, ℕ, Bool, true, false, ◌||◌, List, [], ◌∷◌, ◌++◌, length, get_or, take, refl, sym, ap, ◌∙◌, subst, arith, ⊎_elim, length-append}
use Rattle.std.proofs.lemmas.Bool.{cases_lt}
use Rattle.std.proofs.lemmas.List.{append_assoc, append-nil, take_more, take_all, take-append-le, get_or_append_left, get_or-append_right, get_or-take, map-append}
use Rattle.std.proofs.lemmas.List.Folds.{list_any-append}
use Rattle.apei_hest.specs.Source.{limit_of}
use Rattle.apei_hest.specs.declared.source.Ghes.{Ghes}
use Rattle.fw_map.specs.Areas.{lengths_of, limits_of, reach_of_status, Fit, AreAreasOf, IsAreaOf, IsTooNarrow, IsNarrowAt, HaveNoAreas}
use Rattle.fw_map.specs.Placement.{area_at, IsLowest, IsPlaced, ArePlaced}
use Rattle.fw_map.specs.Runs.{shares, is_taken}
use Rattle.fw_map.specs.Taken.{AreSorted, TakeSame, TakesAlso}
use Rattle.fw_map.specs.declared.error.FwError.{FwError}
use Rattle.fw_map.specs.declared.error.FwError.TheVariants.{Overlap, Room, Narrow, OutOfMemory}
use Rattle.fw_map.specs.declared.run.Run.{Run}

-- the lowest free place is the same where the same is taken
pub lowest_same : (one other : List Run) (bytes number : ℕ) → TakeSame one other → IsLowest one bytes number → IsLowest other bytes number
lowest_same one other bytes number same lowest = record {
  free = sym (same (area_at bytes number)) ∙ lowest.free;
  lower = λ below less. sym (same (area_at bytes below)) ∙ lowest.lower below less;
}

pub placed_same : (one other : List Run) (area : Run) → TakeSame one other → IsPlaced one area → IsPlaced other area
placed_same one other area same placed = (placed.0, placed.1, lowest_same one other area.bytes placed.0 same placed.2)

-- the same is taken with further runs
pub same_with : (one other more : List Run) → TakeSame one other → TakeSame (one ++ more) (other ++ more)
same_with one other more same area =
    list_any-append (λ run. shares run area) one more
    ∙ ap (λ b. b || is_taken more area) (same area)
    ∙ sym (list_any-append (λ run. shares run area) other more)

pub all_placed_same : (one other areas : List Run) → TakeSame one other → ArePlaced one areas → ArePlaced other areas
all_placed_same one other areas same placed k none below =
    placed_same (one ++ take k areas) (other ++ take k areas) (get_or areas k none) (same_with one other (take k areas) same) (placed k none below)

or_swap : (a b : Bool) → (a || b) ≡ (b || (a || false))
or_swap true true = refl
or_swap true false = refl
or_swap false true = refl
or_swap false false = refl

-- a run more that is taken, at the end of those before
pub same_also : (runs before after : List Run) (run : Run) → TakeSame before runs → TakesAlso run before after → TakeSame after (runs ++ run ∷ [])
same_also runs before after run same also area =
    also area
    ∙ ap (λ b. shares run area || b) (same area)
    ∙ or_swap (shares run area) (is_taken runs area)
    ∙ sym (list_any-append (λ other. shares other area) runs (run ∷ []))

-- the last of a list with one more
last_of : {X : Type 0} (xs : List X) (x none : X) → get_or (xs ++ x ∷ []) (length xs) none ≡ x
last_of xs x none =
    get_or-append_right xs (x ∷ []) (length xs) (length xs) none refl (omega arith)
    ∙ (let first : length xs - length xs ≡ 0 = omega arith in ap (λ n. get_or (x ∷ []) n none) first)

-- one area more, behind those that are placed
pub placed_more : (runs areas : List Run) (area : Run) → ArePlaced runs areas → IsPlaced (runs ++ areas) area → ArePlaced runs (areas ++ area ∷ [])
placed_more runs areas area placed next k none below =
    let long : length (areas ++ area ∷ []) ≡ length areas + 1 = length-append areas (area ∷ []) in
    ⊎_elim
    (λ before. subst (λ front. IsPlaced (runs ++ front) (get_or (areas ++ area ∷ []) k none)) (sym (take-append-le k areas (area ∷ []) (omega arith)))
    (subst (IsPlaced (runs ++ take k areas)) (sym (get_or_append_left areas (area ∷ []) none k before)) (placed k none before)))
    (λ from. let here : k ≡ length areas = omega arith in
    subst (λ n. IsPlaced (runs ++ take n (areas ++ area ∷ [])) (get_or (areas ++ area ∷ []) n none)) (sym here)
    (subst (λ front. IsPlaced (runs ++ front) (get_or (areas ++ area ∷ []) (length areas) none))
    (sym (take-append-le (length areas) areas (area ∷ []) (omega arith) ∙ take_all (length areas) areas (omega arith)))
    (subst (IsPlaced (runs ++ areas)) (sym (last_of areas area none)) next)))
    (cases_lt k (length areas))

-- The first so many sources have their areas, and what is taken then.
pub record Placing (runs taken : List Run) (sources : List Ghes) (areas : List Run) (k : ℕ) : Type 0 where
  pub sorted : AreSorted taken
  pub same : TakeSame taken (runs ++ areas)
  pub as_many : length areas ≡ k
  pub limits : lengths_of areas ≡ limits_of (take k sources)
  pub placed : ArePlaced runs areas
  pub fit : Fit sources areas

-- the areas of no source
pub placing_none : (runs : List Run) (sources : List Ghes) → AreSorted runs → Placing runs runs sources [] 0
placing_none runs sources sorted = record {
  sorted = sorted;
  same = λ area. ap (λ all. is_taken all area) (sym (append-nil runs));
  as_many = refl;
  limits = refl;
  placed = λ k none below. absurd (omega arith);
  fit = λ k no_source no_area below. absurd (omega arith);
}

-- one source more has its area
pub placing_more : (runs taken after : List Run) (sources : List Ghes) (areas : List Run) (k : ℕ) (ghes : Ghes) (area : Run) → Placing runs taken sources areas k → k < length sources
    → ((none : Ghes) → ghes ≡ get_or sources k none) → IsAreaOf taken ghes area → AreSorted after → TakesAlso area taken after → Placing runs after sources (areas ++ area ∷ []) (k + 1)
placing_more runs taken after sources areas k ghes area placing within is found sorted also =
    let long : length (areas ++ area ∷ []) ≡ length areas + 1 = length-append areas (area ∷ []) in
    let as_many = placing.as_many in
    record {
      sorted = sorted;
      same = λ other. same_also (runs ++ areas) taken after area placing.same also other ∙ ap (λ all. is_taken all other) (append_assoc runs areas (area ∷ []));
      as_many = omega arith;
      limits = map-append (λ (one : Run). one.bytes) areas (area ∷ [])
          ∙ ap (λ front. front ++ area.bytes ∷ []) placing.limits
          ∙ ap (λ n. limits_of (take k sources) ++ n ∷ []) (found.limit ∙ ap limit_of (is ghes))
          ∙ sym (map-append limit_of (take k sources) (get_or sources k ghes ∷ []))
          ∙ ap limits_of (sym (take_more sources k ghes within));
      placed = placed_more runs areas area placing.placed (placed_same taken (runs ++ areas) area placing.same found.placed);
      fit = λ j no_source no_area below.
          ⊎_elim
          (λ before. subst (λ (one : Run). one.first < reach_of_status (get_or sources j no_source)) (sym (get_or_append_left areas (area ∷ []) no_area j before)) (placing.fit j no_source no_area before))
          (λ from. let here : j ≡ length areas = omega arith in
          let there : length areas ≡ k = as_many in
          subst (λ n. (get_or (areas ++ area ∷ []) n no_area).first < reach_of_status (get_or sources n no_source)) (sym here)
          (subst (λ (one : Run). one.first < reach_of_status (get_or sources (length areas) no_source)) (sym (last_of areas area no_area))
          (subst (λ one. area.first < reach_of_status one) (is no_source ∙ ap (λ n. get_or sources n no_source) (sym there)) found.fits)))
          (cases_lt j (length areas));
    }

-- all sources have their areas
pub placing_all : (runs taken : List Run) (sources : List Ghes) (areas : List Run) (k : ℕ) → length sources ≤ k → Placing runs taken sources areas k → AreAreasOf runs sources areas
placing_all runs taken sources areas k all placing = record {
  limits = placing.limits ∙ ap limits_of (take_all k sources all);
  placed = placing.placed;
  fit = placing.fit;
}

-- sources that fit areas before a place are the first ones
fit_front : (sources : List Ghes) (areas : List Run) → Fit sources areas → Fit (take (length areas) sources) areas
fit_front sources areas fit j no_source no_area below =
    subst (λ one. (get_or areas j no_area).first < reach_of_status one) (sym (get_or-take (length areas) sources j no_source below)) (fit j no_source no_area below)

-- the next source has no area
pub placing_stops : (runs taken : List Run) (sources : List Ghes) (areas : List Run) (k : ℕ) (ghes : Ghes) (error : FwError) → Placing runs taken sources areas k → k < length sources
    → ((none : Ghes) → ghes ≡ get_or sources k none) → IsNarrowAt taken ghes error → HaveNoAreas runs sources error
placing_stops runs taken sources areas k ghes (Overlap first second space address) placing within is narrow = narrow
placing_stops runs taken sources areas k ghes Room placing within is narrow = narrow
placing_stops runs taken sources areas k ghes OutOfMemory placing within is narrow = tt
placing_stops runs taken sources areas k ghes (Narrow id) placing within is narrow =
    let as_many = placing.as_many in
    record {
      areas = areas;
      number = narrow.0;
      within = omega arith;
      before = record {
        limits = placing.limits ∙ ap (λ n. limits_of (take n sources)) (sym as_many);
        placed = placing.placed;
        fit = fit_front sources areas placing.fit;
      };
      narrow = λ none. subst (λ one. IsTooNarrow (runs ++ areas) one narrow.0 id) (is none ∙ ap (λ n. get_or sources n none) (sym as_many)) (record {
        lowest = lowest_same taken (runs ++ areas) (limit_of ghes) narrow.0 placing.same narrow.1.lowest;
        too_high = narrow.1.too_high;
        id_is = narrow.1.id_is;
      });
    }

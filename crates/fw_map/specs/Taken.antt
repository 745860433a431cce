-- Runs that are taken, put in order so that the lowest free place is found in one pass.
use Rattle.std.specs.Prelude.{◌≡◌, ◌||◌, List}
use Rattle.std.specs.List.Sorted.{IsNonDecreasingBy}
use Rattle.fw_map.specs.Runs.{shares, is_taken}
use Rattle.fw_map.specs.declared.run.Run.{Run}

-- the runs stand in the order of their first cells
abbrev pub AreSorted : List Run → Type 0
AreSorted runs = IsNonDecreasingBy (λ (run : Run). run.first) runs

-- the same is taken by both
abbrev pub TakeSame : List Run → List Run → Type 0
TakeSame one other = (area : Run) → is_taken one area ≡ is_taken other area

-- what was taken before is taken afterwards, and what this run takes
abbrev pub TakesAlso : Run → List Run → List Run → Type 0
TakesAlso run before after = (area : Run) → is_taken after area ≡ (shares run area || is_taken before area)

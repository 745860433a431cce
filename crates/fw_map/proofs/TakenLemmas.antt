-- Runs that are taken, in order.
use Rattle.std.proofs.Common.{◌≡◌, ◌≤◌, ℕ, true, false, ltb, List, ◌∷◌, length, get_or, sym, arith}
use Rattle.std.proofs.lemmas.List.Sorted.{list_any-IsPermutation, IsPermutation-insert, IsNonDecreasingBy-insert}
use Rattle.std.proofs.lemmas.Bool.{ltb-true, ltb-false}
use Rattle.std.specs.List.{insert}
use Rattle.std.specs.List.Sorted.{IsPermutation, IsPartitionPoint}
use Rattle.fw_map.specs.Runs.{shares}
use Rattle.fw_map.specs.Taken.{AreSorted, TakeSame, TakesAlso}
use Rattle.fw_map.specs.declared.run.Run.{Run}

-- runs in another order take the same
pub same_moved : (one other : List Run) → IsPermutation one other → TakeSame other one
same_moved one other moved area = sym (list_any-IsPermutation (λ run. shares run area) one other moved)

-- runs with one more take also what it takes
pub takes_also : (runs : List Run) (place : ℕ) (run : Run) → TakesAlso run runs (insert runs place run)
takes_also runs place run area = sym (list_any-IsPermutation (λ taken. shares taken area) (run ∷ runs) (insert runs place run) (IsPermutation-insert runs place run))

-- runs in order stay so where one is put behind those that begin before it
pub sorted_with : (runs : List Run) (place : ℕ) (run : Run) → AreSorted runs → place ≤ length runs
    → IsPartitionPoint (λ other. ltb other.first run.first ≡ true) (λ other. ltb other.first run.first ≡ false) runs place
    → AreSorted (insert runs place run)
sorted_with runs place run sorted within point =
    IsNonDecreasingBy-insert (λ (other : Run). other.first) runs place run sorted within
    (λ k none below. let before = ltb-true (get_or runs k none).first run.first (point.0 k none (omega arith) below) in omega arith)
    (λ k none from below. ltb-false (get_or runs k none).first run.first (point.1 k none from below))

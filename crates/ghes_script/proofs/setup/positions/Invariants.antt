use Rattle.std.proofs.Common.{◌≡◌, ◌≤◌, ℕ, length, drop}
use Rattle.std.specs.Ordering.{nat_cmp}
use Rattle.std.specs.BTreeMap.{get}
use Rattle.ghes_script.specs.Setup.{found_from}
use Rattle.ghes_script.proofs.setup.positions.Given as goal

abbrev pub invariant-loop-at : goal.invariant-loop-at
invariant-loop-at l = (l.at ≤ length l.names) × ((id : ℕ) → get nat_cmp l.by_id id ≡ found_from l.at (drop l.at l.names) id)

abbrev pub decreases-loop-at : goal.decreases-loop-at
decreases-loop-at l = l.at

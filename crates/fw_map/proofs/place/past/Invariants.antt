use Rattle.std.proofs.Common.{◌≡◌, ◌≤◌, ◌<◌, ◌-◌, ℕ, true}
use Rattle.fw_map.specs.Placement.{area_at}
use Rattle.fw_map.specs.Runs.{end_of, shares}
use Rattle.fw_map.proofs.place.past.Given as goal

abbrev pub invariant-loop-number : goal.invariant-loop-number
invariant-loop-number l = record {
  from : l.from ≤ l.number;
  taken : (other : ℕ) → l.from ≤ other → other < l.number → shares l.run (area_at l.bytes other) ≡ true;
}

abbrev pub decreases-loop-number : goal.decreases-loop-number
decreases-loop-number l = end_of l.run - l.number

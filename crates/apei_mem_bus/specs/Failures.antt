-- Accesses that failed by plan.
use Rattle.std.specs.Prelude.{◌≤◌, ℕ}
use Rattle.fault_plan.specs.Plan.{Calls, due}

-- Each failure has come due, and there are no more failures than accesses (own choice).
pub record AreDue (faults : ℕ) (calls : Calls) : Type 0 where
  pub due : faults ≤ due calls
  pub made : faults ≤ calls.made

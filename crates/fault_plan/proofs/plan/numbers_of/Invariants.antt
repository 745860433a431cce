use Rattle.std.proofs.Common.{◌≡◌, [], drop}
use Rattle.fault_plan.specs.Plan.{with_numbers}
use Rattle.fault_plan.proofs.plan.numbers_of.Given as goal

abbrev pub invariant-loop-number : goal.invariant-loop-number
invariant-loop-number l = with_numbers l.numbers.keys (drop l.number-index l.list) ≡ with_numbers [] l.list

use Rattle.std.proofs.Common.{◌≡◌}
use Rattle.ghes_rule.specs.declared.views.Hand.TheVariants.{Bare}
use Rattle.nmi_bench.proofs.running.call_and_take.Given as goal

abbrev pub invariant-loop-caller : goal.invariant-loop-caller
invariant-loop-caller g l = (l.work.table ≡ l.shared) × (l.work.view.held ≡ Bare)

abbrev pub decreases-loop-caller : goal.decreases-loop-caller
decreases-loop-caller g l = l.caller.left

use Rattle.std.proofs.Common.{◌≡◌}
use Rattle.ghes_rule.specs.declared.views.Hand.TheVariants.{Bare}
use Rattle.nmi_bench.proofs.running.in_turn.Given as goal

abbrev pub invariant-loop-caller : goal.invariant-loop-caller
invariant-loop-caller g l = (l.work.table ≡ l.shared) × (l.work.view.held ≡ Bare)

use Rattle.std.proofs.Common.{◌≡◌}
use Rattle.ghes_rule.specs.declared.views.Hand.TheVariants.{Bare}
use Rattle.nmi_bench.proofs.taking.take_all.Given as goal

abbrev pub invariant-loop : goal.invariant-loop
invariant-loop g l = (l.work.table ≡ l.shared) × (l.work.view.held ≡ Bare)

use Rattle.std.proofs.Common.{◌≡◌, ◌≤◌, length}
use Rattle.ghes_rule.specs.declared.views.Stage.TheVariants.{Idle}
use Rattle.ghes_pool.proofs.tests.holds_alone.Given as goal

abbrev pub invariant-loop : goal.invariant-loop
invariant-loop g l = (l.pass.table ≡ l.shared) × (l.pass.view.stage ≡ Idle) × (length l.pass.view.claims ≤ l.counter)

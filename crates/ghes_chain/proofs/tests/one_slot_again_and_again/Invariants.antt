use Rattle.std.proofs.Common.{◌≡◌, ◌≤◌, length}
use Rattle.ghes_rule.specs.declared.views.Stage.TheVariants.{Idle}
use Rattle.ghes_rule.specs.declared.views.Hand.TheVariants.{Bare}
use Rattle.ghes_chain.proofs.tests.one_slot_again_and_again.Given as goal

abbrev pub invariant-loop-number : goal.invariant-loop-number
invariant-loop-number g l = (l.work.table ≡ l.shared) × (l.work.view.held ≡ Bare) × (l.pass.table ≡ l.shared) × (l.pass.view.stage ≡ Idle) × (l.pass.view.room ≡ 32) × (length l.pass.view.claims ≤ l.number)

use Rattle.std.proofs.Common.{◌≡◌, ◌≤◌, length}
use Rattle.ghes_rule.specs.declared.views.Stage.TheVariants.{Idle}
use Rattle.ghes_pool.proofs.tests.each_slot_once.Given as goal

abbrev pub invariant-loop-slot : goal.invariant-loop-slot
invariant-loop-slot g l = (l.pass.table ≡ l.shared) × (l.pass.view.stage ≡ Idle) × (l.pass.view.room ≡ 32) × (length l.pass.view.claims ≤ l.slot)

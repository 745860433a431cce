use Rattle.std.proofs.Common.{◌≡◌, ◌+◌, List}
use Rattle.ghes_rule.specs.declared.views.Turn.{Turn}
use Rattle.ghes_rule.specs.Finds.{AreFinds, after_finds}
use Rattle.ghes_pool.proofs.pool.claim.Given as goal

abbrev pub invariant-loop-slot : goal.invariant-loop-slot
invariant-loop-slot g l = (l.pass.table ≡ l.fn.pass.table) × (l.steps ≡ l.fn.steps + l.slot) × ((finds : List Turn) × AreFinds l.fn.pass.view.since l.slot finds × (l.pass.view ≡ after_finds l.fn.pass.view l.slot finds))

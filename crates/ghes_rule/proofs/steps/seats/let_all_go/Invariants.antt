use Rattle.std.proofs.Common.{◌≡◌, ◌≤◌, vec_capacity}
use Rattle.ghes_rule.specs.Moves.{outs}
use Rattle.ghes_rule.specs.Seen.{AreLetOut}
use Rattle.ghes_rule.proofs.steps.seats.let_all_go.Given as goal

abbrev pub invariant-loop : goal.invariant-loop
invariant-loop l = (l.work ≡ record l.fn.work { view = record l.fn.work.view { passes = outs l.counter l.fn.work.view.passes } })
    × (l.contexts ≤ vec_capacity l.passes) × AreLetOut l.fn.work.table l.fn.work.view l.counter l.passes.items

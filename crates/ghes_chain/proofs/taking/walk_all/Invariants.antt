use Rattle.std.proofs.Common.{◌≡◌, ◌+◌, ◌-◌, ◌≤◌, length}
use Rattle.ghes_chain.proofs.ChainLemmas.{IsOn}
use Rattle.ghes_chain.proofs.taking.walk_all.Given as goal

abbrev pub invariant-loop-work : goal.invariant-loop-work
invariant-loop-work g l = (l.work.table ≡ l.fn.work.table) × IsOn l.fn.work.view l.work.view × (l.steps + length l.fn.work.view.walked ≡ l.fn.steps + length l.work.view.walked) × (l.steps ≤ l.fn.steps + l.shared.slots)

abbrev pub decreases-loop-work : goal.decreases-loop-work
decreases-loop-work g l = l.shared.slots - length l.work.view.walked

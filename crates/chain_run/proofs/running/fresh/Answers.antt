use Rattle.std.proofs.Common.{length, ap, ◌∙◌}
use Rattle.ghes_rule.specs.Seen.{WorkSeen}
use Rattle.ghes_rule.specs.Kept.{first_passes}
use Rattle.ghes_rule.proofs.Outs.{outs_length}
use Rattle.ghes_rule.proofs.Opens.{first_length}
use Rattle.chain_run.proofs.Readiness.{first_ready}
use Rattle.chain_run.proofs.running.fresh.Goals as goal

pub returns-clause-work : goal.returns-clause-work
returns-clause-work c = let e = c.in_ok-shared.ensures.work in let k = c.args.slots in let n = c.args.contexts in (
  ap (λ (w : WorkSeen). w.table) e,
  ap (λ (w : WorkSeen). w.view.held) e,
  ap (λ (w : WorkSeen). length w.view.passes) e ∙ (outs_length n (first_passes 164 k 0 n) ∙ first_length 164 k 0 n),
)

pub returns-clause-passes : goal.returns-clause-passes
returns-clause-passes c = first_ready c.in_ok-shared.shared c.args.slots c.args.contexts c.in_ok-shared.passes.items c.in_ok-shared.ensures.passes

use Rattle.std.proofs.Common.{◌≡◌, length, ap, ◌∙◌, subst}
use Rattle.atomic_table.specs.Seated.{TableId}
use Rattle.ghes_rule.specs.Seen.{WorkSeen, AreLetOut}
use Rattle.ghes_rule.proofs.Outs.{outs_length}
use Rattle.chain_run.proofs.Readiness.{ready_all, ready_out}
use Rattle.chain_run.proofs.running.settle_all.Goals as goal

pub gather-gathered-requires-clause-all : goal.gather-gathered-requires-clause-all
gather-gathered-requires-clause-all c = ready_all c.args.shared.now c.args.most _ c.args.lot.passes.items c.requires.passes

pub returns-clause-work : goal.returns-clause-work
returns-clause-work c = let w : WorkSeen = c.drain.new.gathered in let ps = w.view.passes in let e = c.spread-work.ensures.work in let table : w.table ≡ c.args.shared.now = c.drain.ensures.table ∙ (c.gather-gathered.ensures.belongs ∙ c.requires.work.0) in (
  ap (λ (z : WorkSeen). z.table) e ∙ table,
  ap (λ (z : WorkSeen). z.view.held) e ∙ c.drain.ensures.bare,
  ap (λ (z : WorkSeen). length z.view.passes) e ∙ (outs_length (length ps) ps ∙ (ap length c.drain.ensures.passes ∙ c.gather-gathered.ensures.same.as_many)),
)

pub returns-clause-passes : goal.returns-clause-passes
returns-clause-passes c = let w : WorkSeen = c.drain.new.gathered in let table : w.table ≡ c.args.shared.now = c.drain.ensures.table ∙ (c.gather-gathered.ensures.belongs ∙ c.requires.work.0) in
    ready_out c.args.shared.now c.args.most (length c.args.lot.work.view.passes) c.args.lot.passes.items c.spread-work.result.1.items c.gather-gathered.result.view w.view c.requires.passes c.gather-gathered.ensures.has c.drain.ensures.passes c.gather-gathered.ensures.same.as_many
    (subst (λ (z : TableId). AreLetOut z w.view (length w.view.passes) c.spread-work.result.1.items) table c.spread-work.ensures.passes)

use Rattle.std.proofs.Common.{rules, arith, ◌≡◌, ◌+◌, ◌≤◌, length, ◌∙◌}
use Rattle.ghes_rule.specs.declared.views.WorkView.{WorkView}
use Rattle.ghes_chain.proofs.ChainLemmas.{IsOn, walked_one, walked_length}
use Rattle.ghes_chain.proofs.taking.walk_all.Goals as goal

pub loop-work-preserved : goal.loop-work-preserved
loop-work-preserved g c = let inv = c.loop-work.invariant in let u : WorkView = c.loop-work.work.view in let v : WorkView = c.walk.new.work.view in let d = c.if-not-walk.ensures.view in
    let more = walked_length u v d.0 d.1 d.2 in let cost = c.if-not-walk.ensures.cost in let short = c.if-not-walk.ensures.short in let a = inv.2 in let b = inv.3 in
    (c.if-not-walk.ensures.belongs ∙ inv.0, walked_one c.args.work.now.view u v d.0 inv.1 d.1 d.2, omega arith, omega arith)

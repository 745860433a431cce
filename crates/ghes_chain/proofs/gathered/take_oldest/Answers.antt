use Rattle.std.proofs.Common.{ap, ◌∙◌, subst}
use Rattle.ghes_rule.specs.declared.views.WorkView.{WorkView}
use Rattle.ghes_rule.specs.Moves.{all_back}
use Rattle.ghes_chain.specs.Take.{IsSeen}
use Rattle.ghes_chain.proofs.ChainLemmas.{has_taken, not_all_taken}
use Rattle.ghes_chain.proofs.gathered.take_oldest.Goals as goal

pub returns-clause-some : goal.returns-clause-some
returns-clause-some g c all = let w : WorkView = c.args.work.now.view in let u : WorkView = c.get_chain.new.work.view in let v : WorkView = c.walk_all.new.work.view in let got = c.if-not-get_chain.ensures.chain in let seen = c.walk_all.ensures.seen in
    let done = seen.quiet (ap all_back got.on.passes ∙ c.requires.back) in let t = has_taken w u v c.take_out.new.work.view c.take_out.result got (subst (IsSeen u v) done seen) c.take_out.ensures.taken in
    not_all_taken t.push w (t.oldest c.requires.back) all

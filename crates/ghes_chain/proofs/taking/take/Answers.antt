use Rattle.ghes_chain.proofs.ChainLemmas.{held_back}
use Rattle.ghes_chain.proofs.taking.take.Goals as goal

pub returns-then-not-walk_all-clause-answer : goal.returns-then-not-walk_all-clause-answer
returns-then-not-walk_all-clause-answer g c = held_back c.args.work.now.view c.get_chain.new.work.view c.walk_all.new.work.view c.if-not-get_chain.ensures.chain c.if-not-walk_all.ensures.seen

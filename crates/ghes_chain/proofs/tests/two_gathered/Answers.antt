use Rattle.std.proofs.Common.{rules, sym, subst}
use Rattle.ghes_rule.specs.Seen.{PassSeen}
use Rattle.ghes_chain.specs.Gather.{AreAll}
use Rattle.ghes_chain.proofs.GatherLemmas.{two_all}
use Rattle.ghes_chain.proofs.tests.two_gathered.Goals as goal

pub gather-requires-clause-all : goal.gather-requires-clause-all
gather-requires-clause-all c = subst (AreAll _ _) (search rules) (two_all _ _ c.args.second c.args.first (search rules) (search rules) (search rules))

use Rattle.std.proofs.Common.{◌≡◌, ◌++◌, List, length, vec_capacity}
use Rattle.ghes_rule.specs.Seen.{PassSeen}
use Rattle.ghes_rule.specs.Moves.{IsSameButPasses}
use Rattle.ghes_chain.proofs.GatherLemmas.{AreIn}
use Rattle.ghes_chain.proofs.gathered.take_all_in.Given as goal

abbrev pub invariant-loop-pass : goal.invariant-loop-pass
invariant-loop-pass l = (l.work.table ≡ l.fn.work.table) × (vec_capacity l.passes ≡ vec_capacity l.fn.passes) × IsSameButPasses l.fn.work.view l.work.view
    × ((done : List PassSeen) × (l.fn.passes.items ≡ l.passes.items ++ done)) × AreIn (length l.passes.items) l.fn.passes.items l.work.view

abbrev pub decreases-loop-pass : goal.decreases-loop-pass
decreases-loop-pass l = goal.left-loop-pass l

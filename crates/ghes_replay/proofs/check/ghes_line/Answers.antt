-- The pieces of the line, in order.
use Rattle.std.proofs.Common.{rules, append_assoc}
use Rattle.ghes_replay.specs.Check.{ghes_line}
use Rattle.ghes_replay.proofs.check.ghes_line.Goals as goal

pub returns : goal.returns
unfolding ghes_line
returns c = search (rules, append_assoc)

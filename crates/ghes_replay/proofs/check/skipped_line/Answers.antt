-- The pieces of the line, in order.
use Rattle.std.proofs.Common.{rules, append_assoc}
use Rattle.ghes_replay.specs.Check.{skipped_line}
use Rattle.ghes_replay.proofs.check.skipped_line.Goals as goal

pub returns : goal.returns
unfolding skipped_line
returns c = search (rules, append_assoc)

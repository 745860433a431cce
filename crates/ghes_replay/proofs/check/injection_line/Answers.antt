-- The pieces of the line, in order.
use Rattle.std.proofs.Common.{rules}
use Rattle.ghes_replay.specs.Check.{einj_count_line}
use Rattle.ghes_replay.proofs.check.injection_line.Goals as goal

pub returns-in-Some : goal.returns-in-Some
unfolding einj_count_line
returns-in-Some c = search rules

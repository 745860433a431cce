-- The pieces of the line, in order.
use Rattle.std.proofs.Common.{rules}
use Rattle.ghes_replay.specs.Decode.{malformed_line}
use Rattle.ghes_replay.proofs.decode.malformed_line.Goals as goal

pub returns : goal.returns
unfolding malformed_line
returns c = search rules

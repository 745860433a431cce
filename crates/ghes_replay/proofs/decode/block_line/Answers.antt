-- The pieces of the line, in order.
use Rattle.std.proofs.Common.{rules}
use Rattle.ghes_replay.specs.Decode.{block_line}
use Rattle.ghes_replay.proofs.decode.block_line.Goals as goal

pub returns : goal.returns
unfolding block_line
returns c = search rules

use Rattle.fw_cells.proofs.LookLemmas.{byte_here}
use Rattle.fw_cells.proofs.look.byte_of.Goals as goal

pub returns : goal.returns
returns c =
    byte_here c.args.runs.now c.args.at c.index-runs-at.result c.as_slice.result.now c.args.space c.args.address
    c.requires.order c.requires.has c.index-runs-at.is c.as_slice.ensures

use Rattle.std.proofs.Common.{arith}
use Rattle.fw_cells.specs.Runs.{cells_of}
use Rattle.fw_cells.proofs.LookLemmas.{bytes_from_each}
use Rattle.fw_cells.proofs.look.copy_each.Goals as goal

pub returns : goal.returns
returns c =
    let all = bytes_from_each (cells_of c.args.runs.now) c.args.space c.args.first c.loop-step.into
    (λ k below. c.loop-step.invariant k (omega arith)) in
    rw (c.loop-step.auto.into) at all

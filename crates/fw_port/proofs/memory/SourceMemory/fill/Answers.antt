use Rattle.std.proofs.Common.{arith}
use Rattle.fw_cells.proofs.LookLemmas.{bytes_from_each}
use Rattle.fw_port.specs.Port.{seen_of}
use Rattle.fw_port.specs.Source.{source_cells}
use Rattle.fw_port.proofs.memory.SourceMemory.fill.Goals as goal

pub returns : goal.returns
returns c =
    let all = bytes_from_each (source_cells (seen_of c.args.self.now)) c.args.space c.args.first c.loop-step.into
    (λ k below. c.loop-step.invariant k (omega arith)) in
    rw (c.loop-step.auto.into) at all

use Rattle.std.proofs.Common.{arith}
use Rattle.apei_mem_bus.specs.MemBus.{cells_of}
use Rattle.apei_mem_bus.proofs.CellLemmas.{bytes_from_each}
use Rattle.apei_mem_bus.proofs.mem_bus.MemBus.fill.Goals as goal

pub returns : goal.returns
returns c =
    let all = bytes_from_each (cells_of c.args.self.now) c.args.space c.args.first c.loop-step.into
    (λ k below. c.loop-step.invariant k (omega arith)) in
    rw (c.loop-step.auto.into) at all

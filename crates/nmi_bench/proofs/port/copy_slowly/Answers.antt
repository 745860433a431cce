use Rattle.std.proofs.Common.{arith}
use Rattle.apei_mem_bus.proofs.ShownLemmas.{shown_from_each}
use Rattle.nmi_bench.proofs.port.copy_slowly.Goals as goal

pub returns : goal.returns
returns c =
    let all = shown_from_each c.args.skip c.args.block.now c.loop-step.into
    (λ k below. c.loop-step.invariant k (omega arith)) in
    rw (c.loop-step.auto.into) at all

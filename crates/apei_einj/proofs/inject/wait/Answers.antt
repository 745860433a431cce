-- One more run of action 6.
use Rattle.std.proofs.Common.{refl, arith, ◌∙◌}
use Rattle.apei_einj.specs.Injection.{AreBusy}
use Rattle.apei_einj.proofs.PartLemmas.{left_by}
use Rattle.apei_einj.proofs.WaitLemmas.{busy-more, waits-ends, waits-cut, waits-busy}
use Rattle.apei_einj.proofs.inject.wait.Goals as goal

pub loop-busy_reads-init : goal.loop-busy_reads-init
unfolding AreBusy
loop-busy_reads-init g c = (refl, refl)

pub returns-in_err-value : goal.returns-in_err-value
returns-in_err-value g c =
    left_by c.from_residual.result c.from_residual.ensures.1
    (waits-cut g.B.Bus.step c.args.entries.now (g.B.Bus.state c.args.bus.now) (g.B.Bus.faults c.args.bus.now) c.loop-busy_reads.busy_reads
    (g.B.Bus.state c.loop-busy_reads.bus) _ _ _ _ (omega (arith, c.loop-busy_reads-test.true)) c.loop-busy_reads.invariant.0 c.loop-busy_reads.invariant.1 c.in_err-value.ensures)

pub returns-then-value-eq0 : goal.returns-then-value-eq0
returns-then-value-eq0 g c =
    waits-ends g.B.Bus.step c.args.entries.now (g.B.Bus.state c.args.bus.now) (g.B.Bus.faults c.args.bus.now) c.loop-busy_reads.busy_reads
    (g.B.Bus.state c.loop-busy_reads.bus) _ _ _ _ (omega (arith, c.loop-busy_reads-test.true)) c.loop-busy_reads.invariant.0 c.loop-busy_reads.invariant.1 c.if-value-eq0.true c.in_ok-value.ensures

pub loop-busy_reads-preserved : goal.loop-busy_reads-preserved
loop-busy_reads-preserved g c = (
  busy-more g.B.Bus.step c.args.entries.now (g.B.Bus.state c.args.bus.now) (g.B.Bus.faults c.args.bus.now) c.loop-busy_reads.busy_reads
      (g.B.Bus.state c.loop-busy_reads.bus) _ _ _ _ c.loop-busy_reads.invariant.0 c.if-value-eq0.false c.in_ok-value.ensures,
  c.in_ok-value.ensures.counted ∙ c.loop-busy_reads.invariant.1,
)

pub returns : goal.returns
returns g c =
    waits-busy g.B.Bus.step c.args.entries.now (g.B.Bus.state c.args.bus.now) (g.B.Bus.faults c.args.bus.now) c.loop-busy_reads.busy_reads
    (g.B.Bus.state c.loop-busy_reads.bus) _ (omega (arith, c.loop-busy_reads.auto)) c.loop-busy_reads.invariant.0 c.loop-busy_reads.invariant.1

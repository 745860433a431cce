-- One entry more, or passed over.
use Rattle.std.proofs.Common.{◌∙◌}
use Rattle.apei_einj.proofs.RunLemmas.{on_err, accepted-own_at, accepted-other_at, goes_on-other_at, goes_on-own_at, goes_on-cut_at, goes_on-all}
use Rattle.apei_einj.proofs.run.run_entries.Goals.{then-entry-action+in_ok-value, else-entry-action}
use Rattle.apei_einj.proofs.run.run_entries.Goals as goal

pub run_entry-requires : goal.run_entry-requires
run_entry-requires g c =
    (accepted-own_at c.args.action c.args.entries.now c.loop-entry.entry-index _ c.loop-entry-test.true c.if-entry-action.true c.loop-entry.invariant.0).0

pub returns-in_err-value-clause-err : goal.returns-in_err-value-clause-err
returns-in_err-value-clause-err g c =
    on_err c.from_residual.result (goes_on-cut_at g.B.Bus.step c.args.action c.args.entries.now c.loop-entry.entry-index _ c.args.value c.loop-entry.value
    (g.B.Bus.state c.args.bus.now) (g.B.Bus.state c.loop-entry.bus) (g.B.Bus.state c.run_entry.new.bus) c.loop-entry-test.true c.if-entry-action.true
    c.loop-entry.invariant.1 c.in_err-value.ensures.err)

pub loop-entry-preserved : goal.loop-entry-preserved
loop-entry-preserved g c =
    let entries = c.args.entries.now in
    let i = c.loop-entry.entry-index in
    elim c.if-entry-action.branch [
      | then-entry-action+in_ok-value w ↦
          rw (w.bus-is, w.value-is) (
            (accepted-own_at c.args.action entries i _ c.loop-entry-test.true w.if-entry-action.true c.loop-entry.invariant.0).1,
            goes_on-own_at g.B.Bus.step c.args.action entries i _ c.args.value c.loop-entry.value
                (g.B.Bus.state c.args.bus.now) (g.B.Bus.state c.loop-entry.bus) w.in_ok-value.value (g.B.Bus.state w.run_entry.new.bus) c.loop-entry-test.true w.if-entry-action.true
                c.loop-entry.invariant.1 w.in_ok-value.ensures.ok,
            w.in_ok-value.ensures.count.unfailed ∙ c.loop-entry.invariant.2,
          )
      | else-entry-action w ↦
          rw (w.bus-is, w.value-is) (
            accepted-other_at c.args.action entries i _ c.loop-entry-test.true w.if-entry-action.false c.loop-entry.invariant.0,
            goes_on-other_at g.B.Bus.step c.args.action entries i _ c.args.value c.loop-entry.value
                (g.B.Bus.state c.args.bus.now) (g.B.Bus.state c.loop-entry.bus) c.loop-entry-test.true w.if-entry-action.false
                c.loop-entry.invariant.1,
            c.loop-entry.invariant.2,
          )
    ]

pub returns-clause-ok : goal.returns-clause-ok
returns-clause-ok g c =
    goes_on-all g.B.Bus.step c.args.action c.args.entries.now c.loop-entry.entry-index c.args.value c.loop-entry.value
    (g.B.Bus.state c.args.bus.now) (g.B.Bus.state c.loop-entry.bus) c.loop-entry-test.false c.loop-entry.invariant.1

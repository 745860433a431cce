use Rattle.std.proofs.Common.{◌≡◌, ◌≤◌, [], length, sym, ap, subst, ◌∙◌, arith}
use Rattle.ghes_desk.specs.Desk.{new_desk}
use Rattle.ghes_lines.specs.Run.{IsRun}
use Rattle.ghes_lines.proofs.RunningLemmas.{was_stopped, leads_none, leads_more, stops_at, ends}
use Rattle.ghes_lines.proofs.run.run_lines.Goals.{then-loop-next-test+else-not-is_stopped, else-loop-next-test}
use Rattle.ghes_lines.proofs.run.run_lines.Goals as goal

pub loop-next-init : goal.loop-next-init
loop-next-init g c = record {
  long = ap (λ d. d.block_len) c.in_ok-desk.ensures;
  injects = c.requires.injects;
  within = omega arith;
  leads = leads_none g.P.Firmware.seen g.P.Bus.faults g.I.Injector.does c.args.machine.now (g.I.Injector.state c.args.injector.now) c.args.ports.now c.in_ok-desk.desk c.args.block_len (c.in_ok-desk.ensures ∙ ap (λ n. new_desk n c.args.block_len) c.from.ensures) c.requires.fresh;
}

pub returns-in-Err-clause-err : goal.returns-in-Err-clause-err
returns-in-Err-clause-err g c =
    let before = c.loop-next in
    stops_at g.P.Firmware.seen g.P.Bus.faults g.I.Injector.does c.args.machine.now (g.I.Injector.state c.args.injector.now) c.args.lines.now before.next c.index-lines-next.result (g.I.Injector.state before.injector) before.ports before.desk c.in-Err.stop
    c.loop-next-test.true c.index-lines-next.is c.in-Err.ensures.full before.invariant.leads

pub returns-clause-ok : goal.returns-clause-ok
returns-clause-ok g c =
    let seen = g.P.Firmware.seen in
    let faults = g.P.Bus.faults in
    let machine = c.args.machine.now in
    let lines = c.args.lines.now in
    let before = c.loop-next in
    let all : before.desk.ledger.panic ≡ [] → length lines ≤ before.next = λ none. elim c.loop-next-test.branch [
      | then-loop-next-test+else-not-is_stopped w ↦ absurd (was_stopped before.desk.ledger.panic w.is_stopped.result w.is_stopped.ensures w.if-not-is_stopped.false none)
      | else-loop-next-test w ↦ w.loop-next-test.false
    ] in
    let does = g.I.Injector.does in
    let first = g.I.Injector.state c.args.injector.now in
    let last = g.I.Injector.state before.injector in
    subst (λ kept. IsRun seen faults does machine lines first last c.finish.new.ports kept) (sym c.into_ledger.ensures)
    (ends seen faults does machine first lines before.next last before.ports c.finish.new.ports before.desk c.finish.new.desk all c.in_ok-finish.ensures.empty c.in_ok-finish.ensures.ok before.invariant.leads)

pub loop-next-preserved : goal.loop-next-preserved
loop-next-preserved g c =
    let before = c.loop-next in
    record {
      long = c.in-Ok.ensures.block_len ∙ before.invariant.long;
      injects = c.in-Ok.ensures.injects ∙ before.invariant.injects;
      within = omega (arith, c.loop-next-test.true);
      leads = leads_more g.P.Firmware.seen g.P.Bus.faults g.I.Injector.does c.args.machine.now (g.I.Injector.state c.args.injector.now) c.args.lines.now before.next c.index-lines-next.result (g.I.Injector.state before.injector) (g.I.Injector.state c.execute.new.injector) before.ports c.execute.new.ports before.desk c.execute.new.desk
          c.loop-next-test.true c.index-lines-next.is c.in-Ok.ensures.ok c.in-Ok.ensures.injected before.invariant.leads;
    }

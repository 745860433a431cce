use Rattle.std.proofs.Common.{◌≡◌, false, ◌∙◌, arith}
use Rattle.ghes_ledger.specs.Plan.{served}
use Rattle.ghes_ledger.specs.Turns.{turns}
use Rattle.ghes_lines.specs.Machine.{plan_of}
use Rattle.ghes_lines.proofs.TurnLemmas.{turns_step, turns_whole}
use Rattle.ghes_lines.proofs.running.turns.Goals as goal

pub loop-left-preserved : goal.loop-left-preserved
loop-left-preserved g c =
    let now = c.loop-left in
    let plan = plan_of c.args.machine.now in
    let context = c.args.context in
    record {
      long = c.turn.ensures.block_len ∙ now.invariant.long;
      goes = λ number before start m. c.in_ok-ended.ensures.goes number before start (now.invariant.goes number before start m);
      part = turns_step plan context now.left now.ended c.in_ok-ended.ended (turns c.args.n (served plan context)) c.args.calls.now.items now.calls.items c.turn.new.calls.items
          c.loop-left-test.true c.if-not-ended.true now.invariant.part c.in_ok-ended.ensures.turns;
    }

pub returns-after-loop-left-clause-turns : goal.returns-after-loop-left-clause-turns
returns-after-loop-left-clause-turns g c =
    let now = c.loop-left in
    let sources = served (plan_of c.args.machine.now) c.args.context in
    let none : now.ended ≡ false → now.left ≡ 0 = λ go. omega (arith, c.loop-left-test.false) in
    turns_whole c.args.context now.left now.ended (turns c.args.n sources) sources c.args.calls.now.items now.calls.items none now.invariant.part

use Rattle.std.proofs.Common.{◌++◌, refl, sym, subst, ◌∙◌, arith, false}
use Rattle.ghes_ledger.specs.Plan.{served}
use Rattle.ghes_lines.specs.Machine.{plan_of}
use Rattle.ghes_lines.specs.Midway.{IsPart}
use Rattle.ghes_lines.proofs.TurnLemmas.{part_none, served_all, turn_step}
use Rattle.ghes_lines.proofs.running.turn.Goals as goal

pub loop-at-init : goal.loop-at-init
loop-at-init g c =
    let plan = plan_of c.args.machine.now in
    let context = c.args.context in
    let calls = c.args.calls.now.items in
    record {
      long = refl;
      within = omega arith;
      goes = λ number before start m. m;
      part = λ more. subst (λ ss. IsPart context (served plan context ++ more) (ss ++ more) false calls calls) (sym (served_all plan context)) (part_none context (served plan context ++ more) calls);
    }

pub loop-at-preserved : goal.loop-at-preserved
loop-at-preserved g c =
    let now = c.loop-at in
    let plan = plan_of c.args.machine.now in
    let context = c.args.context in
    record {
      long = c.visit.ensures.block_len ∙ now.invariant.long;
      within = omega (arith, c.loop-at-test.true, c.len.ensures);
      goes = λ number before start m. c.in_ok-ended.ensures.goes number before start (now.invariant.goes number before start m);
      part = λ more. turn_step plan context now.at now.ended c.in_ok-ended.ended (served plan context ++ more) more c.args.calls.now.items now.calls.items c.visit.new.calls.items
          (omega (arith, c.loop-at-test.true, c.len.ensures)) c.if-not-ended.true (now.invariant.part more) c.in_ok-ended.ensures.visits;
    }

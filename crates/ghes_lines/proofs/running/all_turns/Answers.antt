use Rattle.std.proofs.Common.{◌≡◌, ◌∙◌, subst, arith}
use Rattle.ghes_lines.specs.Machine.{plan_of}
use Rattle.ghes_lines.proofs.MidwayLemmas.{amid_later}
use Rattle.ghes_lines.proofs.TurnLemmas.{ByContexts, contexts_step, servers_below, turns_of}
use Rattle.ghes_lines.proofs.running.all_turns.Goals as goal

pub loop-context-preserved : goal.loop-context-preserved
loop-context-preserved g c =
    let now = c.loop-context in
    record {
      long = c.turns.ensures.block_len ∙ now.invariant.long;
      goes = λ number before start m. c.in_ok-turns.ensures.goes number before start (now.invariant.goes number before start m);
      contexts = contexts_step (plan_of c.args.machine.now) c.args.n now.context now.calls.items c.turns.new.calls.items now.invariant.contexts c.in_ok-turns.ensures.turns;
    }

pub returns-clause-turns : goal.returns-clause-turns
returns-clause-turns g c =
    let plan = plan_of c.args.machine.now in
    let now = c.loop-context in
    let all : now.context ≡ c.args.machine.now.contexts = omega (arith, c.loop-context-test.false, now.auto.context-end) in
    turns_of plan c.args.n now.calls.items (servers_below c.args.desk.now.block_len c.args.machine.now c.requires.machine)
    (subst (λ k. ByContexts plan c.args.n k now.calls.items) all now.invariant.contexts)

pub turns-requires-clause-amid : goal.turns-requires-clause-amid
turns-requires-clause-amid g c =
    let now = c.loop-context in
    amid_later g.P.Firmware.seen g.P.Bus.faults c.args.machine.now c.args.ports.now now.ports c.args.desk.now now.desk c.args.calls.now.items now.calls.items now.invariant.goes c.requires.amid

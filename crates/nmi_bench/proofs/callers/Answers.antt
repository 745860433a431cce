use Rattle.std.proofs.Common.{rules, length}
use Rattle.ghes_rule.proofs.Gathered.{popped_first}
use Rattle.nmi_bench.proofs.PassLemmas.{fewer, few}
use Rattle.nmi_bench.proofs.callers.Goals as goal

pub caller-requires-clause-pass : goal.caller-requires-clause-pass
caller-requires-clause-pass c =
    let before = c.loop.passes.items in
    let after = c.pop.new.self.items in (
      length after,
      fewer before after c.in-Some.pass (search rules) c.loop.invariant.1,
      (popped_first c.args.shared.now 4096 16 before after c.in-Some.pass (search rules) c.loop.invariant.0).1,
    )

pub loop-preserved : goal.loop-preserved
loop-preserved c =
    let before = c.loop.passes.items in
    let after = c.pop.new.self.items in (
      (popped_first c.args.shared.now 4096 16 before after c.in-Some.pass (search rules) c.loop.invariant.0).0,
      few before after c.in-Some.pass (search rules) c.loop.invariant.1,
    )

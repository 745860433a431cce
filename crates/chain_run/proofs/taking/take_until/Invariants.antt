use Rattle.chain_run.specs.Ready.{StaysBare}
use Rattle.chain_run.proofs.taking.take_until.Given as goal

abbrev pub invariant-loop : goal.invariant-loop
invariant-loop g l = StaysBare l.fn.work l.work

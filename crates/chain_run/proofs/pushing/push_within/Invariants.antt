use Rattle.std.proofs.Common.{◌≡◌}
use Rattle.chain_run.specs.Ready.{GoesOn}
use Rattle.chain_run.proofs.pushing.push_within.Given as goal

abbrev pub invariant-loop : goal.invariant-loop
invariant-loop g l = GoesOn l.fn.pass l.pass 0 × (l.packet ≡ l.fn.packet)

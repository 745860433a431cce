use Rattle.std.proofs.Common.{◌≤◌}
use Rattle.chain_run.specs.Ready.{GoesOn}
use Rattle.chain_run.proofs.pushing.push_all.Given as goal

abbrev pub invariant-loop-number : goal.invariant-loop-number
invariant-loop-number g l = GoesOn l.fn.pass l.pass l.number × (164 ≤ l.packet.bytes.room)

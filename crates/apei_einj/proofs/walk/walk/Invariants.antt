use Rattle.std.proofs.Common.{◌-◌, length}
use Rattle.apei_einj.specs.Walk.{IsReadUpTo}
use Rattle.apei_einj.proofs.walk.walk.Given as goal

abbrev pub invariant-loop-rest : goal.invariant-loop-rest
invariant-loop-rest l = IsReadUpTo l.bytes l.entries.items (length l.bytes - length l.rest) l.rest

abbrev pub decreases-loop-rest : goal.decreases-loop-rest
decreases-loop-rest l = length l.rest

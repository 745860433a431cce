use Rattle.std.proofs.Common.{◌≡◌, length}
use Rattle.ghes_pool.proofs.tests.four_at.Given as goal

abbrev pub invariant-loop : goal.invariant-loop
invariant-loop g l = length l.flags.items ≡ l.counter

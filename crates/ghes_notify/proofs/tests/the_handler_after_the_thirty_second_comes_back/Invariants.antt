use Rattle.std.proofs.Common.{◌≤◌, ◌+◌}
use Rattle.ghes_notify.proofs.tests.the_handler_after_the_thirty_second_comes_back.Given as goal

abbrev pub invariant-loop : goal.invariant-loop
invariant-loop g l = l.chain.made ≤ l.counter + 1

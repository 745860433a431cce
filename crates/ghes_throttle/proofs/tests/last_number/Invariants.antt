use Rattle.std.proofs.Common.{◌≡◌, ◌≤◌, ◌+◌, length}
use Rattle.ghes_throttle.proofs.tests.last_number.Given as goal

abbrev pub invariant-loop : goal.invariant-loop
invariant-loop g l =
    record {
      block_len : l.writer.block_len ≡ l.fn.writer.block_len;
      count : length l.writer.list ≤ length l.fn.writer.list + l.counter;
    }

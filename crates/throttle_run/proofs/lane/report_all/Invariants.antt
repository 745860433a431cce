use Rattle.std.proofs.Common.{◌≡◌, ◌≤◌, ◌+◌, length}
use mathlib.Core.List.{IsPrefix}
use Rattle.throttle_run.proofs.lane.report_all.Given as goal

abbrev pub invariant-loop : goal.invariant-loop
invariant-loop g l =
    record {
      book : l.writer.book ≡ l.fn.writer.book;
      block_len : l.writer.block_len ≡ l.fn.writer.block_len;
      count : length l.writer.list ≤ length l.fn.writer.list + l.counter;
      list : IsPrefix l.fn.writer.list l.writer.list;
    }

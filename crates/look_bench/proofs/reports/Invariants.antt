use Rattle.std.proofs.Common.{◌≡◌, ◌≤◌, ◌+◌, length}
use Rattle.look_bench.proofs.reports.Given as goal

abbrev pub invariant-loop-index : goal.invariant-loop-index
invariant-loop-index g l =
    record {
      block_len : l.writer.block_len ≡ 164;
      list : length l.writer.list ≤ l.index + 1;
    }

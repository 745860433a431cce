use Rattle.std.proofs.Common.{◌≡◌}
use mathlib.Core.List.{IsPrefix}
use Rattle.ghes_throttle.proofs.reader.ThrottleReader.learned.Given as goal

abbrev pub invariant-loop : goal.invariant-loop
invariant-loop g l =
    record {
      book : l.reader.book ≡ l.fn.self.book;
      list : IsPrefix l.fn.self.list l.reader.list;
    }

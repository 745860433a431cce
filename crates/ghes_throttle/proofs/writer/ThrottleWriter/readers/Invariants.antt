use Rattle.std.proofs.Common.{◌≡◌, All, vec_len}
use Rattle.ghes_throttle.specs.Shown.{Knows}
use Rattle.ghes_throttle.proofs.writer.ThrottleWriter.readers.Given as goal

abbrev pub invariant-loop : goal.invariant-loop
invariant-loop l =
    record {
      same : l.self ≡ l.fn.self;
      count : vec_len l.all ≡ l.counter;
      seen : All (Knows l.fn.self.book l.fn.self.list) l.all.items;
    }

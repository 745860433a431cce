use Rattle.std.proofs.Common.{◌≡◌, map}
use Rattle.std.specs.List.{range_with_len}
use Rattle.ghes_ledger.specs.Counts.{counts_of}
use Rattle.ghes_ledger.proofs.ledger.Ledger.summary.Given as goal

abbrev pub invariant-loop-source : goal.invariant-loop-source
invariant-loop-source l = l.counts.items ≡ map (counts_of l.self) (range_with_len 0 l.source)

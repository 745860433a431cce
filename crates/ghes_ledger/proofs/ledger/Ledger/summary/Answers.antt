use Rattle.std.proofs.Common.{rules, sym, zero-add}
use Rattle.std.proofs.lemmas.List.FromFn.{map-range_with_len_more}
use Rattle.ghes_ledger.specs.Counts.{counts_of}
use Rattle.ghes_ledger.proofs.ledger.Ledger.summary.Goals as goal

pub loop-source-preserved : goal.loop-source-preserved
loop-source-preserved c = search (rules, sym (map-range_with_len_more (counts_of c.args.self.now) 0 c.loop-source.source c.loop-source.source (zero-add c.loop-source.source)))

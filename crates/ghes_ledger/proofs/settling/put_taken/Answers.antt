use Rattle.std.proofs.Common.{sym}
use Rattle.ghes_ledger.specs.Settled.{numbered_taken}
use Rattle.ghes_ledger.proofs.SettledLemmas.{filled_next}
use Rattle.ghes_ledger.proofs.settling.put_taken.Goals as goal

pub loop-entry-preserved : goal.loop-entry-preserved
loop-entry-preserved c =
    filled_next (numbered_taken c.args.source) c.args.table.now c.loop-entry.table c.put_entry.new.table c.args.taken.now c.loop-entry.entry-index c.entry-item.result c.entry-item.result
    c.loop-entry-test.true (sym c.entry-item.is) c.loop-entry.invariant c.put_entry.ensures

use Rattle.ghes_ledger.proofs.SettledLemmas.{filled_all}
use Rattle.ghes_ledger.proofs.settling.put_all.Goals as goal

pub returns : goal.returns
returns c =
    filled_all c.args.source c.args.ledger.now c.args.table.now c.put_calls.new.table c.put_taken.new.table c.put_panic.new.table
    c.calls.result.now c.taken.result.now c.panic.result.now
    c.calls.ensures c.taken.ensures c.panic.ensures c.put_calls.ensures c.put_taken.ensures c.put_panic.ensures

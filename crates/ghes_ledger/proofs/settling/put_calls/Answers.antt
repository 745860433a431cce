use Rattle.std.proofs.Common.{get_or, refl}
use Rattle.ghes_call.specs.declared.call.AckState.TheVariants.{NotAsked}
use Rattle.ghes_call.specs.declared.call.Call.{Call}
use Rattle.ghes_call.specs.declared.call.Outcome.TheVariants.{Nothing}
use Rattle.ghes_ledger.specs.Settled.{numbered_call}
use Rattle.ghes_ledger.proofs.SettledLemmas.{filled_next}
use Rattle.ghes_ledger.proofs.settling.put_calls.Goals as goal

abbrev no_call : Call
no_call = record { context = 0; source = 0; now = 0; reply = record { outcome = Nothing; ack = NotAsked } }

pub loop-call-preserved : goal.loop-call-preserved
loop-call-preserved c =
    filled_next (numbered_call c.args.source) c.args.table.now c.loop-call.table c.put_call.new.table c.args.calls.now c.loop-call.call-index no_call (get_or c.args.calls.now c.loop-call.call-index no_call)
    c.loop-call-test.true refl c.loop-call.invariant c.put_call.ensures

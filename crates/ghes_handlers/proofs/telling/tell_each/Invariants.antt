use Rattle.std.proofs.Common.{◌≡◌, length}
use Rattle.ghes_notify.specs.Chain.{delivered}
use Rattle.ghes_notify.specs.Order.{call_order}
use Rattle.ghes_handlers.specs.Deliveries.{deliveries_of}
use Rattle.ghes_handlers.specs.Told.{AreDelivered}
use Rattle.ghes_handlers.proofs.telling.tell_each.Given as goal

-- a chain of what is left goes on from a chain of what was told
abbrev pub invariant-loop-entry : goal.invariant-loop-entry
invariant-loop-entry g l =
    record {
      kept : l.chain ≡ delivered l.fn.chain l.chain.handlers;
      goes : (new : _) (result : _)
          → AreDelivered g.H.Handler.stands g.H.Handler.answers (call_order l.fn.chain.tags) (deliveries_of l.rest) l.chain.handlers new result
          → AreDelivered g.H.Handler.stands g.H.Handler.answers (call_order l.fn.chain.tags) (deliveries_of l.taken) l.fn.chain.handlers new result;
    }

abbrev pub decreases-loop-entry : goal.decreases-loop-entry
decreases-loop-entry g l = length l.rest

use Rattle.std.proofs.Common.{◌≡◌, List, length}
use Rattle.std.specs.Prelude.{Result, ⊤}
use Rattle.ghes_notify.specs.declared.error.HandlerMemory.{HandlerMemory}
use Rattle.ghes_notify.specs.Delivery.{delivery_of, Delivers, IsWithin}
use Rattle.ghes_notify.proofs.deliver.deliver.Given as goal

abbrev pub invariant-loop-rank : goal.invariant-loop-rank
invariant-loop-rank g l =
    record {
      within : IsWithin (length l.handlers) l.rest;
      len : length l.handlers ≡ length l.fn.handlers;
      goes : (new : _) (result : _)
          → Delivers g.H.Handler.stands g.H.Handler.answers (delivery_of l.source l.seq l.block) l.rest l.handlers new result
          → Delivers g.H.Handler.stands g.H.Handler.answers (delivery_of l.source l.seq l.block) l.ranks l.fn.handlers new result;
    }

abbrev pub decreases-loop-rank : goal.decreases-loop-rank
decreases-loop-rank g l = length l.rest

use Rattle.std.proofs.Common.{◌∙◌, ℕ, List, [], ◌∷◌, sym, ap, subst}
use Rattle.ghes_notify.specs.Delivery.{Delivery, delivery_of}
use Rattle.ghes_notify.specs.Order.{call_order}
use Rattle.ghes_handlers.specs.Deliveries.{deliveries_by}
use Rattle.ghes_handlers.specs.Told.{AreDelivered}
use Rattle.ghes_handlers.proofs.Chaining.{one_delivered}
use Rattle.ghes_handlers.proofs.telling.tell.Goals as goal

pub returns-in-Delivered-clause-told : goal.returns-in-Delivered-clause-told
returns-in-Delivered-clause-told g c =
    let stands = g.H.Handler.stands in
    let answers = g.H.Handler.answers in
    let ranks = call_order c.args.chain.now.tags in
    let entry = c.in-Delivered in
    let old = c.args.chain.now.handlers in
    let new = c.call.new.self.handlers in
    subst (λ (ds : List Delivery). AreDelivered stands answers ranks ds old new c.call.result)
    (ap (λ (bytes : List ℕ). delivery_of entry.source entry.seq bytes ∷ []) c.as_slice.ensures
    ∙ sym (ap deliveries_by entry.is))
    (one_delivered stands answers ranks
    (delivery_of entry.source entry.seq c.as_slice.result.now) old new c.call.result c.call.ensures.delivery)

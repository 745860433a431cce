use Rattle.std.proofs.Common.{◌∙◌, List, sym, ap, subst}
use Rattle.std.specs.Prelude.{Ok}
use Rattle.ghes_notify.specs.declared.order.Tag.{Tag}
use Rattle.ghes_notify.specs.Chain.{delivered}
use Rattle.ghes_notify.specs.Order.{call_order}
use Rattle.ghes_ledger.specs.declared.ledger.Taken.{Taken}
use Rattle.ghes_handlers.specs.Deliveries.{deliveries_by, deliveries_of}
use Rattle.ghes_handlers.specs.Told.{AreDelivered}
use Rattle.ghes_handlers.proofs.Chaining.{delivered_more}
use Rattle.ghes_handlers.proofs.telling.tell_each.Goals as goal

pub loop-entry-preserved : goal.loop-entry-preserved
loop-entry-preserved g c =
    let stands = g.H.Handler.stands in
    let answers = g.H.Handler.answers in
    let kept = c.loop-entry.invariant.kept in
    let ranks = call_order c.args.chain.now.tags in
    let entry = c.in-Some.entry.now in
    let tail = c.in-Some.tail.now in
    let old = c.loop-entry.chain.handlers in
    let mid = c.tell.new.chain.handlers in
    let first : AreDelivered stands answers ranks (deliveries_by entry) old mid (Ok c.in-Ok.field-0) =
    subst (λ (tags : List Tag). AreDelivered stands answers (call_order tags) (deliveries_by entry) old mid
    (Ok c.in-Ok.field-0)) (ap (λ chain. chain.tags) kept) c.in-Ok.ensures.told in
    record {
      kept = c.tell.ensures.kept ∙ ap (λ chain. delivered chain mid) kept;
      goes = λ new result rest.
          c.loop-entry.invariant.goes new result
          (subst (λ (taken : List Taken). AreDelivered stands answers ranks (deliveries_of taken) old new result)
          (sym c.in-Some.ensures.cases.0)
          (delivered_more stands answers ranks (deliveries_by entry)
          (deliveries_of tail) old mid new result first rest));
    }

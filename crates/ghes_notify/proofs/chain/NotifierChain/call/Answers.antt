use Rattle.std.proofs.Common.{◌≡◌, ◌∙◌, sym, subst, List, ℕ, length, arith}
use Rattle.ghes_notify.specs.declared.order.Rank.{Rank}
use Rattle.ghes_notify.specs.Order.{call_order}
use Rattle.ghes_notify.specs.Delivery.{IsWithin}
use Rattle.ghes_notify.proofs.Ordering.{call_order_within}
use Rattle.ghes_notify.proofs.chain.NotifierChain.call.Goals as goal

pub deliver-requires : goal.deliver-requires
deliver-requires g c =
    let kept = c.self.invariant in
    let tags = c.self.inside.tags.items in
    let same : length tags ≡ length c.deref_mut.result.now = omega arith in
    subst (λ (ranks : List Rank). IsWithin (length c.deref_mut.result.now) ranks) (sym (c.deref.ensures.value ∙ kept.2))
    (subst (λ (count : ℕ). IsWithin count (call_order tags)) same (call_order_within tags))

use Rattle.std.proofs.Common.{◌≡◌, ◌∙◌, ◌<◌, sym, ap, subst, List, arith, rules}
use Rattle.std.proofs.lemmas.List.Elements.{All-nil}
use Rattle.ghes_notify.specs.declared.order.Tag.{Tag}
use Rattle.ghes_notify.specs.Order.{call_order, AreBelow}
use Rattle.ghes_notify.proofs.Ordering.{call_order_nil}
use Rattle.ghes_notify.proofs.chain.NotifierChain.new.Goals as goal

pub invariant_of-result : goal.invariant_of-result
invariant_of-result g c =
    let none = c.in_ok-with_capacity.ensures.items in (
      search rules,
      search rules,
      c.in_ok-with_capacity-2.ensures.items ∙ sym (ap call_order none ∙ call_order_nil),
      omega (arith, c.in_ok-with_capacity.ensures.len),
      omega (arith, c.in_ok-with_capacity.ensures.capacity),
      omega (arith, c.in_ok-with_capacity-2.ensures.capacity),
      subst (λ (tags : List Tag). AreBelow 0 tags) (sym none) (All-nil (λ (t : Tag). t.id < 0)),
    )

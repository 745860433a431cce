use Rattle.std.proofs.Common.{◌≡◌, ◌∙◌, ◌+◌, List, sym, ap, arith}
use Rattle.ghes_notify.specs.declared.order.Tag.{Tag}
use Rattle.ghes_notify.specs.declared.order.Rank.{Rank}
use Rattle.ghes_notify.specs.Order.{order_after}
use Rattle.ghes_notify.proofs.Ordering.{order_next, order_end}
use Rattle.ghes_notify.proofs.order.rank_all.Goals as goal

pub loop-tag-preserved : goal.loop-tag-preserved
loop-tag-preserved c =
    let place = c.loop-tag.place in
    let order = c.loop-tag.order.items in
    let tail = c.in-Some.tail.now in
    let cases = c.in-Some.ensures.cases in
    record {
      goes = ap (λ (ranks : List Rank). order_after (place + 1) ranks tail) c.rank_in.ensures.ranked
          ∙ (sym (order_next place order c.in-Some.tag.now tail) ∙ (ap (λ (tags : List Tag). order_after place order tags) (sym cases.0) ∙ c.loop-tag.invariant.goes));
      len = omega (arith, cases.1, c.rank_in.ensures.len);
      place = omega (arith, c.rank_in.ensures.len);
      capacity = omega (arith, c.rank_in.ensures.capacity);
    }

pub returns-clause-order : goal.returns-clause-order
returns-clause-order c = sym (order_end c.loop-tag.place c.loop-tag.order.items c.loop-tag.rest.now c.in_default.ensures.cases) ∙ c.loop-tag.invariant.goes

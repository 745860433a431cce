use Rattle.std.proofs.Common.{◌≡◌, ◌≤◌, ◌+◌, vec_len, vec_capacity, length}
use Rattle.ghes_notify.specs.Order.{order_after, call_order}
use Rattle.ghes_notify.proofs.order.rank_all.Given as goal

abbrev pub invariant-loop-tag : goal.invariant-loop-tag
invariant-loop-tag l =
    record {
      goes : order_after l.place l.order.items l.rest ≡ call_order l.tags;
      len : vec_len l.order + length l.rest ≡ length l.tags;
      place : l.place ≡ vec_len l.order;
      capacity : vec_capacity l.fn.order ≤ vec_capacity l.order;
    }

abbrev pub decreases-loop-tag : goal.decreases-loop-tag
decreases-loop-tag l = length l.rest

use Rattle.std.proofs.Common.{◌≡◌, ◌≤◌, ◌+◌, ◌++◌, vec_len, vec_capacity}
use Rattle.ghes_handlers.proofs.registering.put_before.Given as goal

abbrev pub invariant-loop-handler : goal.invariant-loop-handler
invariant-loop-handler g l =
    record {
      order : l.before.items ++ l.all.items ≡ l.fn.front.items ++ l.fn.rest.items;
      room : vec_len l.before + vec_len l.all ≤ vec_capacity l.all;
    }

abbrev pub decreases-loop-handler : goal.decreases-loop-handler
decreases-loop-handler g l = vec_len l.before

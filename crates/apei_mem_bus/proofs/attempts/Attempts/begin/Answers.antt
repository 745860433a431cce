use Rattle.std.proofs.Common.{arith}
use Rattle.apei_mem_bus.proofs.attempts.Attempts.begin.Goals as goal

pub invariant_of-self-else-fails_next : goal.invariant_of-self-else-fails_next
invariant_of-self-else-fails_next c =
    let few = c.args.self.now.are_due in
    record {
      are_due = record {
        due = omega (arith, few.due, c.fails_next.ensures.due);
        made = omega (arith, few.made, c.fails_next.ensures.grows);
      };
    }

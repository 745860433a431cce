use Rattle.std.proofs.Common.{◌≡◌}
use Rattle.ghes_ledger.specs.Plan.{served}
use Rattle.ghes_ledger.specs.Turns.{turns}
use Rattle.ghes_lines.specs.Machine.{plan_of}
use Rattle.ghes_lines.specs.Midway.{Continues, IsPart}
use Rattle.ghes_lines.proofs.running.turns.Given as goal

-- so many turns are left
abbrev pub invariant-loop-left : goal.invariant-loop-left
invariant-loop-left g l =
    record {
      long : l.desk.block_len ≡ l.initial.desk.block_len;
      goes : Continues g.P.Firmware.seen g.P.Bus.faults l.machine l.initial.ports l.initial.desk l.initial.calls.items l.ports l.desk l.calls.items;
      part : IsPart l.context (turns l.n (served (plan_of l.machine) l.context)) (turns l.left (served (plan_of l.machine) l.context)) l.ended l.initial.calls.items l.calls.items;
    }

abbrev pub decreases-loop-left : goal.decreases-loop-left
decreases-loop-left g l = l.left

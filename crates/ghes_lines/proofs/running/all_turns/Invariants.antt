use Rattle.std.proofs.Common.{◌≡◌}
use Rattle.ghes_lines.specs.Machine.{plan_of}
use Rattle.ghes_lines.specs.Midway.{Continues}
use Rattle.ghes_lines.proofs.TurnLemmas.{ByContexts}
use Rattle.ghes_lines.proofs.running.all_turns.Given as goal

-- the contexts below this one made their turns
abbrev pub invariant-loop-context : goal.invariant-loop-context
invariant-loop-context g l =
    record {
      long : l.desk.block_len ≡ l.initial.desk.block_len;
      goes : Continues g.P.Firmware.seen g.P.Bus.faults l.machine l.initial.ports l.initial.desk l.initial.calls.items l.ports l.desk l.calls.items;
      contexts : ByContexts (plan_of l.machine) l.n l.context l.calls.items;
    }

use Rattle.std.proofs.Common.{◌≡◌, ◌≤◌, ◌-◌, ℕ, List, ◌++◌, length}
use Rattle.ghes_ledger.specs.Plan.{served}
use Rattle.ghes_lines.specs.Machine.{plan_of}
use Rattle.ghes_lines.specs.Midway.{Continues, IsPart}
use Rattle.ghes_lines.proofs.TurnLemmas.{served_from}
use Rattle.ghes_lines.proofs.running.turn.Given as goal

-- the sources up to here were called
abbrev pub invariant-loop-at : goal.invariant-loop-at
invariant-loop-at g l =
    record {
      long : l.desk.block_len ≡ l.initial.desk.block_len;
      within : l.at ≤ length l.machine.sources.items;
      goes : Continues g.P.Firmware.seen g.P.Bus.faults l.machine l.initial.ports l.initial.desk l.initial.calls.items l.ports l.desk l.calls.items;
      part : (more : List ℕ) → IsPart l.context (served (plan_of l.machine) l.context ++ more) (served_from (plan_of l.machine) l.context l.at ++ more) l.ended l.initial.calls.items l.calls.items;
    }

abbrev pub decreases-loop-at : goal.decreases-loop-at
decreases-loop-at g l = length l.machine.sources.items - l.at

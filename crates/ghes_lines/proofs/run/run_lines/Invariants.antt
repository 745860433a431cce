use Rattle.std.proofs.Common.{◌≡◌, ◌≤◌, ◌-◌, length, take}
use Rattle.ghes_lines.specs.Run.{Leads}
use Rattle.ghes_lines.proofs.run.run_lines.Given as goal

-- so many lines were executed, and a history of them leads to what the replay has
abbrev pub invariant-loop-next : goal.invariant-loop-next
invariant-loop-next g l =
    record {
      long : l.desk.block_len ≡ l.block_len;
      injects : g.I.Injector.sources l.injector ≡ length l.machine.sources.items;
      within : l.next ≤ length l.lines;
      leads : Leads g.P.Firmware.seen g.P.Bus.faults g.I.Injector.does l.machine (g.I.Injector.state l.initial.injector) l.ports l.desk (take l.next l.lines) (g.I.Injector.state l.injector);
    }

abbrev pub decreases-loop-next : goal.decreases-loop-next
decreases-loop-next g l = length l.lines - l.next

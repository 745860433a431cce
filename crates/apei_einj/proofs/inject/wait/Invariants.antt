use Rattle.std.proofs.Common.{◌≡◌}
use Rattle.apei_einj.specs.Injection.{AreBusy}
use Rattle.apei_einj.proofs.inject.wait.Given as goal

abbrev pub invariant-loop-busy_reads : goal.invariant-loop-busy_reads
invariant-loop-busy_reads g l =
    AreBusy g.B.Bus.step l.entries l.busy_reads (g.B.Bus.state l.fn.bus) (g.B.Bus.state l.bus)
    × (g.B.Bus.faults l.bus ≡ g.B.Bus.faults l.fn.bus)

use Rattle.std.proofs.Common.{◌≡◌, None, drop}
use Rattle.apei_einj.specs.Entry.{of_action}
use Rattle.apei_einj.specs.Refusal.{first_refusal}
use Rattle.apei_einj.proofs.RunLemmas.{GoesOn}
use Rattle.apei_einj.proofs.run.run_entries.Given as goal

abbrev pub invariant-loop-entry : goal.invariant-loop-entry
invariant-loop-entry g l =
    (first_refusal (of_action l.action (drop l.entry-index l.entries)) ≡ None)
    × GoesOn g.B.Bus.step (of_action l.action l.entries) (of_action l.action (drop l.entry-index l.entries)) l.fn.value l.value (g.B.Bus.state l.fn.bus) (g.B.Bus.state l.bus)
    × (g.B.Bus.faults l.bus ≡ g.B.Bus.faults l.fn.bus)

use Rattle.ghes_setup.proofs.PortLemmas.{AreSetTo}
use Rattle.ghes_setup.proofs.ports.set_cells.Given as goal

-- so many read ack registers are set
abbrev pub invariant-loop-at : goal.invariant-loop-at
invariant-loop-at l = AreSetTo l.at l.machine.sources.items l.ports.items

use Rattle.ghes_rule.specs.Seen.{AreEmptyCells}
use Rattle.ghes_rule.proofs.building.cells.Given as goal

abbrev pub invariant-loop : goal.invariant-loop
invariant-loop l = AreEmptyCells l.block_len l.counter l.cells.items

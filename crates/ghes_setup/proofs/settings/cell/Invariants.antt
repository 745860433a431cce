use Rattle.std.proofs.Common.{◌≡◌, length}
use Rattle.ghes_setup.specs.Settings.{said_by, cell_by}
use Rattle.ghes_setup.proofs.settings.cell.Given as goal

abbrev pub invariant-loop-line : goal.invariant-loop-line
invariant-loop-line l = said_by (cell_by l.at) l.cell l.rest ≡ said_by (cell_by l.at) 0 l.settings

abbrev pub decreases-loop-line : goal.decreases-loop-line
decreases-loop-line l = length l.rest

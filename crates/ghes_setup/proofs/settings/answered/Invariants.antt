use Rattle.std.proofs.Common.{◌≡◌, length}
use Rattle.ghes_setup.specs.Settings.{said_by, setup_by, default_setup}
use Rattle.ghes_setup.proofs.settings.answered.Given as goal

abbrev pub invariant-loop-line : goal.invariant-loop-line
invariant-loop-line l = said_by setup_by l.setup l.rest ≡ said_by setup_by default_setup l.settings

abbrev pub decreases-loop-line : goal.decreases-loop-line
decreases-loop-line l = length l.rest

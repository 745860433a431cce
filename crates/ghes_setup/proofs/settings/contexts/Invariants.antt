use Rattle.std.proofs.Common.{◌≡◌, length}
use Rattle.ghes_setup.specs.Settings.{said_by, contexts_by}
use Rattle.ghes_setup.proofs.settings.contexts.Given as goal

abbrev pub invariant-loop-line : goal.invariant-loop-line
invariant-loop-line l = said_by contexts_by l.contexts l.rest ≡ said_by contexts_by 1 l.settings

abbrev pub decreases-loop-line : goal.decreases-loop-line
decreases-loop-line l = length l.rest

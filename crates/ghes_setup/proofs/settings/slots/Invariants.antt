use Rattle.std.proofs.Common.{◌≡◌, length}
use Rattle.ghes_setup.specs.Settings.{said_by, slots_by}
use Rattle.ghes_setup.proofs.settings.slots.Given as goal

abbrev pub invariant-loop-line : goal.invariant-loop-line
invariant-loop-line l = said_by slots_by l.slots l.rest ≡ said_by slots_by 16 l.settings

abbrev pub decreases-loop-line : goal.decreases-loop-line
decreases-loop-line l = length l.rest

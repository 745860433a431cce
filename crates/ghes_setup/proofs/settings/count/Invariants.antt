use Rattle.std.proofs.Common.{◌≡◌, ◌+◌, length}
use Rattle.ghes_setup.proofs.FrontLemmas.{front_length}
use Rattle.ghes_setup.proofs.settings.count.Given as goal

abbrev pub invariant-loop-line : goal.invariant-loop-line
invariant-loop-line l = l.passed + front_length l.rest ≡ front_length l.lines

abbrev pub decreases-loop-line : goal.decreases-loop-line
decreases-loop-line l = length l.rest

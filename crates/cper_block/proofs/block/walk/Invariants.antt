use Rattle.std.proofs.Common.{◌≡◌, ◌≤◌, ◌+◌, ℕ, List, length}
use Rattle.cper_block.specs.Cut.{Cuts}
use Rattle.cper_block.proofs.block.walk.Given as goal

abbrev pub invariant-loop-length : goal.invariant-loop-length
invariant-loop-length l =
    (entries : List (List ℕ)) × Cuts l.bytes entries l.rest × (l.whole ≡ length entries) × (l.whole + length l.rest ≤ length l.bytes)

abbrev pub decreases-loop-length : goal.decreases-loop-length
decreases-loop-length l = length l.rest

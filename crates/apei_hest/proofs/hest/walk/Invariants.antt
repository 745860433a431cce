use Rattle.std.proofs.Common.{length, drop, ℕ, List}
use Rattle.apei_hest.specs.Admitted.{IsWalked}
use Rattle.apei_hest.proofs.hest.walk.Given as goal

abbrev pub invariant-loop-rest : goal.invariant-loop-rest
invariant-loop-rest l = (structures : List (List ℕ)) × IsWalked (drop 40 l.bytes) structures l.rest l.admitted

abbrev pub decreases-loop-rest : goal.decreases-loop-rest
decreases-loop-rest l = length l.rest

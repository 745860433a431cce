use Rattle.std.proofs.Common.{◌≡◌, ◌≤◌, ◌++◌, List, ℕ, length}
use Rattle.ghes_outside.specs.Outside.{Appends}
use Rattle.ghes_replay.proofs.putting.put_all.Given as goal

abbrev pub invariant-loop-rest : goal.invariant-loop-rest
invariant-loop-rest g l =
    (done : List ℕ) × (l.text ≡ done ++ l.rest) × Appends (g.K.Sink.seen l.fn.out).written (g.K.Sink.seen l.out).written done
    × ((g.K.Sink.seen l.fn.out).faults ≤ (g.K.Sink.seen l.out).faults)

abbrev pub decreases-loop-rest : goal.decreases-loop-rest
decreases-loop-rest g l = length l.rest

use Rattle.std.proofs.Common.{◌+◌, ◌≤◌, length}
use Rattle.ghes_script.specs.Setup.{setup_of}
use Rattle.ghes_script.proofs.Scanning.{Scans}
use Rattle.ghes_script.proofs.script.Script.read.Given as goal

abbrev pub invariant-loop-rest : goal.invariant-loop-rest
invariant-loop-rest l =
    (l.number + length l.rest ≤ length l.bytes) × Scans (setup_of l.names l.injection) l.bytes l.lines.items l.sofar l.number l.rest

abbrev pub decreases-loop-rest : goal.decreases-loop-rest
decreases-loop-rest l = length l.rest

use Rattle.std.proofs.Common.{◌≡◌, map, take}
use Rattle.ghes_replay.specs.Planned.{acknowledged_of}
use Rattle.ghes_replay.proofs.playing.acknowledged.Given as goal

-- those of so many, in order
abbrev pub invariant-loop-port : goal.invariant-loop-port
invariant-loop-port l = l.acknowledged.items ≡ map acknowledged_of (take l.port-index l.ports)

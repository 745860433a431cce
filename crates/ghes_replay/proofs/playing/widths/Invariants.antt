use Rattle.std.proofs.Common.{◌≡◌, map, take}
use Rattle.ghes_replay.specs.Planned.{width_of}
use Rattle.ghes_replay.proofs.playing.widths.Given as goal

-- those of so many, in order
abbrev pub invariant-loop-source : goal.invariant-loop-source
invariant-loop-source l = l.widths.items ≡ map width_of (take l.source-index l.sources)

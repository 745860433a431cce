use Rattle.std.proofs.Common.{◌≡◌, map, take}
use Rattle.ghes_lines.specs.declared.machine.Source.{Source}
use Rattle.ghes_replay.proofs.playing.ids.Given as goal

-- those of so many, in order
abbrev pub invariant-loop-source : goal.invariant-loop-source
invariant-loop-source l = l.ids.items ≡ map (λ (source : Source). source.id) (take l.source-index l.sources)

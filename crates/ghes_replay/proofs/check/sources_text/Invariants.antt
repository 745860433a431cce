use Rattle.std.proofs.Common.{◌≡◌, ◌++◌, take}
use Rattle.std.specs.List.{flat_map}
use Rattle.ghes_replay.specs.Check.{source_text}
use Rattle.ghes_replay.proofs.check.sources_text.Given as goal

-- the lines of the sources so far were appended
abbrev pub invariant-loop-source : goal.invariant-loop-source
invariant-loop-source l = l.into.items ≡ l.fn.into.items ++ flat_map source_text (take l.source-index l.found)

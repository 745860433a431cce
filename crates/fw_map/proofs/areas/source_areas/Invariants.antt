use Rattle.fw_map.proofs.AreaLemmas.{Placing}
use Rattle.fw_map.proofs.areas.source_areas.Given as goal

abbrev pub invariant-loop-ghes : goal.invariant-loop-ghes
invariant-loop-ghes l = Placing l.initial.taken.items l.taken.items l.sources l.areas.items l.ghes-index

use Rattle.fw_map.proofs.PlaceLemmas.{Swept}
use Rattle.fw_map.proofs.place.lowest.Given as goal

abbrev pub invariant-loop-run : goal.invariant-loop-run
invariant-loop-run l = Swept l.runs l.bytes l.run-index l.number

use Rattle.fw_map.specs.Overlap.{AreApartBelow}
use Rattle.fw_map.proofs.overlap.overlap.Given as goal

abbrev pub invariant-loop-place : goal.invariant-loop-place
invariant-loop-place l = AreApartBelow l.registers l.place

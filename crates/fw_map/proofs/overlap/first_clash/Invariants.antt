use Rattle.std.proofs.Common.{◌≡◌, ◌<◌, ℕ, false, get_or}
use Rattle.fw_map.specs.Overlap.{clash}
use Rattle.fw_map.specs.declared.run.Register.{Register}
use Rattle.fw_map.proofs.overlap.first_clash.Given as goal

abbrev pub invariant-loop-place : goal.invariant-loop-place
invariant-loop-place l = (k : ℕ) (none : Register) → k < l.place → clash (get_or l.registers k none) l.later ≡ false

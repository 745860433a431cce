use Rattle.std.proofs.Common.{◌≡◌, take}
use Rattle.fw_map.specs.Registers.{runs_of}
use Rattle.fw_map.proofs.taken.sorted_runs.Given as goal

abbrev pub invariant-loop-register : goal.invariant-loop-register
invariant-loop-register l = l.runs.items ≡ runs_of (take l.register-index l.registers)

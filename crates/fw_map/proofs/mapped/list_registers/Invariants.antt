use Rattle.std.proofs.Common.{◌≡◌, ◌++◌, take}
use Rattle.fw_map.specs.Mapped.{listed_runs}
use Rattle.fw_map.specs.Registers.{runs_of}
use Rattle.fw_map.proofs.mapped.list_registers.Given as goal

abbrev pub invariant-loop-register : goal.invariant-loop-register
invariant-loop-register l = l.list.items ≡ l.initial.list.items ++ listed_runs (runs_of (take l.register-index l.registers))

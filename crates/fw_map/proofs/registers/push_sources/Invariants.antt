use Rattle.std.proofs.Common.{◌≡◌, ◌++◌, take}
use Rattle.std.specs.List.{flat_map}
use Rattle.fw_map.specs.Registers.{source_registers}
use Rattle.fw_map.proofs.registers.push_sources.Given as goal

abbrev pub invariant-loop-ghes : goal.invariant-loop-ghes
invariant-loop-ghes l = l.registers.items ≡ l.initial.registers.items ++ flat_map source_registers (take l.ghes-index l.sources)

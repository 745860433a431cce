use Rattle.std.proofs.Common.{◌≡◌, ◌++◌, take}
use Rattle.std.specs.List.{flat_map}
use Rattle.fw_map.specs.Registers.{entry_registers}
use Rattle.fw_map.proofs.registers.push_entries.Given as goal

abbrev pub invariant-loop-entry : goal.invariant-loop-entry
invariant-loop-entry l = l.registers.items ≡ l.initial.registers.items ++ flat_map (entry_registers l.structure) (take l.entry-index l.entries)

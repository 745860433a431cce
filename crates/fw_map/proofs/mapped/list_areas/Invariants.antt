use Rattle.std.proofs.Common.{◌≡◌, ◌++◌, take}
use Rattle.fw_map.specs.Mapped.{listed_runs}
use Rattle.fw_map.proofs.mapped.list_areas.Given as goal

abbrev pub invariant-loop-area : goal.invariant-loop-area
invariant-loop-area l = l.list.items ≡ l.initial.list.items ++ listed_runs (take l.area-index l.areas)

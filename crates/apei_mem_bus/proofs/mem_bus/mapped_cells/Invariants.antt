use Rattle.std.proofs.Common.{◌≡◌, ℕ, Some, None, if◌then◌else◌, take}
use Rattle.std.specs.BTreeMap.{get}
use Rattle.std.specs.Ordering.{nat_cmp}
use Rattle.apei_mem_bus.specs.MemBus.{is_in_runs}
use Rattle.apei_mem_bus.proofs.mem_bus.mapped_cells.Given as goal

abbrev pub invariant-loop-of : goal.invariant-loop-of
invariant-loop-of l = (address : ℕ) → get nat_cmp l.bank address ≡ (if is_in_runs (take l.of-index l.runs) l.space address then Some 0 else None)

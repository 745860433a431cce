use Rattle.std.proofs.Common.{◌≡◌, ℕ, Some, if◌then◌else◌}
use Rattle.std.specs.BTreeMap.{get}
use Rattle.std.specs.Ordering.{nat_cmp}
use Rattle.apei_mem_bus.specs.MemBus.{is_in_run}
use Rattle.apei_mem_bus.proofs.mem_bus.map_run.Given as goal

abbrev pub invariant-loop-step : goal.invariant-loop-step
invariant-loop-step l = (address : ℕ) → get nat_cmp l.bank address ≡ (if is_in_run l.first l.step address then Some 0 else get nat_cmp l.initial.bank address)

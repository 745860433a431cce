use Rattle.std.proofs.Common.{◌≡◌, ◌<◌, ◌+◌, ℕ, slice_index}
use Rattle.apei_mem_bus.specs.MemBus.{cells_of}
use Rattle.apei_base.specs.Bus.{byte_at}
use Rattle.apei_mem_bus.proofs.mem_bus.MemBus.fill.Given as goal

abbrev pub invariant-loop-step : goal.invariant-loop-step
invariant-loop-step l = (k : ℕ) → k < l.step → slice_index l.into k ≡ byte_at (cells_of l.self) l.space (l.first + k)

use Rattle.std.proofs.Common.{◌≡◌, ◌<◌, ◌+◌, ℕ, get_or}
use Rattle.apei_base.specs.Bus.{byte_at}
use Rattle.fw_port.specs.Port.{seen_of}
use Rattle.fw_port.specs.Source.{source_cells}
use Rattle.fw_port.proofs.memory.SourceMemory.fill.Given as goal

abbrev pub invariant-loop-step : goal.invariant-loop-step
invariant-loop-step l = (k : ℕ) → k < l.step → get_or l.into k 0 ≡ byte_at (source_cells (seen_of l.self)) l.space (l.first + k)

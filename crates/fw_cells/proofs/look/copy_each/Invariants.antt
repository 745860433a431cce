use Rattle.std.proofs.Common.{◌≡◌, ◌<◌, ◌+◌, ℕ, get_or}
use Rattle.apei_base.specs.Bus.{byte_at}
use Rattle.fw_cells.specs.Runs.{cells_of}
use Rattle.fw_cells.proofs.look.copy_each.Given as goal

abbrev pub invariant-loop-step : goal.invariant-loop-step
invariant-loop-step l = (k : ℕ) → k < l.step → get_or l.into k 0 ≡ byte_at (cells_of l.runs) l.space (l.first + k)

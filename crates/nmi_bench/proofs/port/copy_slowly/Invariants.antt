use Rattle.std.proofs.Common.{◌≡◌, ◌<◌, ◌+◌, ℕ, slice_index}
use Rattle.nmi_bench.proofs.port.copy_slowly.Given as goal

abbrev pub invariant-loop-step : goal.invariant-loop-step
invariant-loop-step l = (k : ℕ) → k < l.step → slice_index l.into k ≡ slice_index l.block (l.skip + k)

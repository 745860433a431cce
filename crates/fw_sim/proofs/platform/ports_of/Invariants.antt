use Rattle.std.proofs.Common.{◌≡◌, ◌<◌, ℕ, length, slice_index_or}
use Rattle.fw_port.specs.declared.port.SourcePort.{SourcePort}
use Rattle.fw_sim.specs.Platform.{IsPortAt}
use Rattle.fw_sim.proofs.platform.ports_of.Given as goal

abbrev pub invariant-loop-place : goal.invariant-loop-place
invariant-loop-place l =
    (length l.ports.items ≡ l.place)
    × ((k : ℕ) (none : SourcePort) → k < l.place → IsPortAt l.sources l.areas k (slice_index_or l.ports.items k none))

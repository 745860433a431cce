use Rattle.std.proofs.Common.{◌≡◌, take}
use Rattle.apei_hest.specs.Refusal.{enabled}
use Rattle.fw_map.proofs.registers.enabled_sources.Given as goal

abbrev pub invariant-loop-source : goal.invariant-loop-source
invariant-loop-source l = l.found.items ≡ enabled (take l.source-index l.sources)

use Rattle.std.proofs.Common.{◌≡◌, take}
use Rattle.apei_einj.specs.Trigger.{trigger_entries}
use Rattle.apei_einj.proofs.trigger.read_entries.Given as goal

abbrev pub invariant-loop-index : goal.invariant-loop-index
invariant-loop-index l = take l.index l.into ≡ take l.index (trigger_entries l.bytes)

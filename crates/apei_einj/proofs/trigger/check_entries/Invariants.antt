use Rattle.std.proofs.Common.{◌≡◌, drop}
use Rattle.apei_einj.specs.Entry.{of_action}
use Rattle.apei_einj.specs.Trigger.{first_reason}
use Rattle.apei_einj.proofs.trigger.check_entries.Given as goal

abbrev pub invariant-loop-entry : goal.invariant-loop-entry
invariant-loop-entry l = first_reason (of_action 0xff (drop l.entry-index l.entries)) ≡ first_reason (of_action 0xff l.entries)

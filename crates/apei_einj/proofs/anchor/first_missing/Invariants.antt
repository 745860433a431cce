use Rattle.std.proofs.Common.{◌≡◌, drop}
use Rattle.apei_einj.specs.Refusal.{first_missing}
use Rattle.apei_einj.proofs.anchor.first_missing.Given as goal

abbrev pub invariant-loop-action : goal.invariant-loop-action
invariant-loop-action l = first_missing l.entries (drop l.action-index l.actions) ≡ first_missing l.entries l.actions

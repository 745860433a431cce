use Rattle.std.proofs.Common.{◌≡◌, drop}
use Rattle.apei_einj.specs.Anchor.{anchor_of}
use Rattle.apei_einj.proofs.anchor.anchor_of.Given as goal

abbrev pub invariant-loop-entry : goal.invariant-loop-entry
invariant-loop-entry l = anchor_of l.action (drop l.entry-index l.entries) ≡ anchor_of l.action l.entries

use Rattle.ghes_rule.proofs.RuleHolds.{rule_holds}
use Rattle.ghes_rule.proofs.laws.rule_holds.Goals as goal

pub returns : goal.returns
returns c room n s kept = rule_holds kept

use Rattle.ghes_rule.proofs.NoSlot.{pending_counted}
use Rattle.ghes_rule.proofs.laws.pending_is_what_was_not_taken.Goals as goal

pub returns : goal.returns
returns c = pending_counted

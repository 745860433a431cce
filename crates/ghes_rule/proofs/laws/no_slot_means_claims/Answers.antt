use Rattle.ghes_rule.proofs.NoSlot.{some_slot}
use Rattle.ghes_rule.proofs.laws.no_slot_means_claims.Goals as goal

pub returns : goal.returns
returns c = some_slot

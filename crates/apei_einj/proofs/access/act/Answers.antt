-- Where no entry is refused, none of the action is.
use Rattle.apei_einj.proofs.RunLemmas.{accepted-of_action}
use Rattle.apei_einj.proofs.access.act.Goals as goal

pub act_own-requires : goal.act_own-requires
act_own-requires g c = accepted-of_action c.args.action c.args.entries.now c.requires

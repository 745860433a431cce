use Rattle.fw_einj.proofs.FieldLemmas.{none_when}
use Rattle.fw_einj.proofs.register.Register.region.Goals as goal

pub region-requires : goal.region-requires
region-requires c = none_when _ c.args.self.now.accepted

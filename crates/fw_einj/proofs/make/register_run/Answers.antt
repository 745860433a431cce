use Rattle.fw_einj.proofs.AnchorsLemmas.{register_accepted}
use Rattle.fw_einj.proofs.make.register_run.Goals as goal

pub region-region-requires : goal.region-region-requires
region-region-requires c = register_accepted c.args.entry.now c.requires.refused c.requires.register

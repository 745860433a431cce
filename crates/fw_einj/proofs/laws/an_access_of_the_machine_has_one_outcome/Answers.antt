use Rattle.fw_einj.proofs.OutcomeLemmas.{machine_determined}
use Rattle.fw_einj.proofs.laws.an_access_of_the_machine_has_one_outcome.Goals as goal

pub returns : goal.returns
returns c = machine_determined

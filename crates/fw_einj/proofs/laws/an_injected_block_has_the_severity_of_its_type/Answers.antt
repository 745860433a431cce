use Rattle.fw_einj.proofs.BlockLemmas.{block_severity}
use Rattle.fw_einj.proofs.laws.an_injected_block_has_the_severity_of_its_type.Goals as goal

pub returns : goal.returns
returns c = block_severity

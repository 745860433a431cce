use Rattle.cper_block.proofs.ReasonLemmas.{judged_wider}
use Rattle.cper_block.proofs.laws.a_higher_limit_lets_a_block_in.Goals as goal

pub returns : goal.returns
returns c = judged_wider

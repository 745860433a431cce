use Rattle.cper_block.proofs.LawLemmas.{one_judgement}
use Rattle.cper_block.proofs.laws.bytes_are_judged_in_one_way.Goals as goal

pub returns : goal.returns
returns c = one_judgement

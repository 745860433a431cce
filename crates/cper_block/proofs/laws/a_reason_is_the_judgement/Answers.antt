use Rattle.cper_block.proofs.ReasonLemmas.{judgement_is_reason, reason_is_judgement}
use Rattle.cper_block.proofs.laws.a_reason_is_the_judgement.Goals as goal

pub returns : goal.returns
returns c = λ bytes limit answer. (judgement_is_reason bytes limit answer, reason_is_judgement bytes limit answer)

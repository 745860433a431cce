use Rattle.cper_block.proofs.JoinedLemmas.{judged_joined, judged_whole}
use Rattle.cper_block.proofs.laws.joined_parts_are_a_block.Goals as goal

pub returns-clause-front : goal.returns-clause-front
returns-clause-front c = judged_joined

pub returns-clause-whole : goal.returns-clause-whole
returns-clause-whole c = judged_whole

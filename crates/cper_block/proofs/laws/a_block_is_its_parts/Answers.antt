use Rattle.cper_block.proofs.PartLemmas.{is_its_parts, is_at_hand, is_within}
use Rattle.cper_block.proofs.laws.a_block_is_its_parts.Goals as goal

pub returns-clause-joined : goal.returns-clause-joined
returns-clause-joined c = is_its_parts

pub returns-clause-at_hand : goal.returns-clause-at_hand
returns-clause-at_hand c = is_at_hand

pub returns-clause-within : goal.returns-clause-within
returns-clause-within c = is_within

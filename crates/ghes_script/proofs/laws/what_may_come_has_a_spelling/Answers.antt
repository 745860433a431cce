use Rattle.ghes_script.proofs.SpellBlocks.{spells}
use Rattle.ghes_script.proofs.laws.what_may_come_has_a_spelling.Goals as goal

pub returns : goal.returns
returns c = spells

use Rattle.cper_block.proofs.LawLemmas.{entries_are}
use Rattle.cper_block.proofs.laws.the_entries_are_those_of_the_cut.Goals as goal

pub returns : goal.returns
returns c = entries_are

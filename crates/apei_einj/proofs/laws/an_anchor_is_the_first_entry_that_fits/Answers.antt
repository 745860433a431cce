use Rattle.apei_einj.proofs.AnchorLemmas.{anchor_found, anchor_none}
use Rattle.apei_einj.proofs.laws.an_anchor_is_the_first_entry_that_fits.Goals as goal

pub returns-clause-found : goal.returns-clause-found
returns-clause-found c = anchor_found

pub returns-clause-none : goal.returns-clause-none
returns-clause-none c = anchor_none

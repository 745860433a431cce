use Rattle.apei_hest.proofs.LawLemmas.{accepted_is_hest}
use Rattle.apei_hest.proofs.laws.an_accepted_table_is_its_structures.Goals as goal

pub returns : goal.returns
returns c = accepted_is_hest

use Rattle.apei_einj.proofs.LawLemmas.{einj_of}
use Rattle.apei_einj.proofs.laws.an_accepted_table_is_its_header_and_its_entries.Goals as goal

pub returns : goal.returns
returns c = einj_of

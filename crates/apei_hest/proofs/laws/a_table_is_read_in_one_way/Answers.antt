use Rattle.apei_hest.proofs.LawLemmas.{one_judgement}
use Rattle.apei_hest.proofs.laws.a_table_is_read_in_one_way.Goals as goal

pub returns : goal.returns
returns c = one_judgement

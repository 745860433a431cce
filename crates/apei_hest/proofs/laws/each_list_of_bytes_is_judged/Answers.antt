use Rattle.apei_hest.proofs.TotalLemmas.{judged}
use Rattle.apei_hest.proofs.laws.each_list_of_bytes_is_judged.Goals as goal

pub returns : goal.returns
returns c = judged

use Rattle.apei_base.proofs.SeenLemmas.{area_zeros}
use Rattle.apei_base.proofs.laws.an_area_without_a_block_is_zeros.Goals as goal

pub returns : goal.returns
returns c = area_zeros

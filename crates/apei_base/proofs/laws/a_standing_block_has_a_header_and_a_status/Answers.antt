use Rattle.apei_base.proofs.SeenLemmas.{standing_raised}
use Rattle.apei_base.proofs.laws.a_standing_block_has_a_header_and_a_status.Goals as goal

pub returns : goal.returns
returns c = standing_raised

use Rattle.fw_map.proofs.LawLemmas.{common_from, shares_common}
use Rattle.fw_map.proofs.laws.runs_share_a_cell_where_both_have_one.Goals as goal

pub returns : goal.returns
returns c = λ one other. (common_from one other, shares_common one other)

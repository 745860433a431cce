use Rattle.std.proofs.Common.{sym, ◌∙◌}
use Rattle.fw_map.proofs.LawLemmas.{one_map, not_refused}
use Rattle.fw_map.proofs.laws.tables_have_one_map.Goals as goal

pub returns-clause-registers : goal.returns-clause-registers
returns-clause-registers c = λ sources einj one other is also. is.registers ∙ sym also.registers

pub returns-clause-areas : goal.returns-clause-areas
returns-clause-areas c = one_map

pub returns-clause-refusals : goal.returns-clause-refusals
returns-clause-refusals c = not_refused

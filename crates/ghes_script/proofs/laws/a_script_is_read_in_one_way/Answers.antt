use Rattle.ghes_script.proofs.CutLemmas.{same_texts}
use Rattle.ghes_script.proofs.OneReading.{same_lines, one_refusal, not_both, either}
use Rattle.ghes_script.proofs.laws.a_script_is_read_in_one_way.Goals as goal

pub returns-clause-one_cut : goal.returns-clause-one_cut
returns-clause-one_cut c = same_texts

pub returns-clause-same : goal.returns-clause-same
returns-clause-same c = same_lines

pub returns-clause-one_refusal : goal.returns-clause-one_refusal
returns-clause-one_refusal c = one_refusal

pub returns-clause-not_both : goal.returns-clause-not_both
returns-clause-not_both c = not_both

pub returns-clause-either : goal.returns-clause-either
returns-clause-either c = either

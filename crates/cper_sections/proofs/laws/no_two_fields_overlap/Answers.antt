use Rattle.cper_sections.proofs.TableLemmas.{behind_validation, apart}
use Rattle.cper_sections.proofs.laws.no_two_fields_overlap.Goals as goal

pub returns-clause-behind_validation : goal.returns-clause-behind_validation
returns-clause-behind_validation c = behind_validation

pub returns-clause-apart : goal.returns-clause-apart
returns-clause-apart c = apart

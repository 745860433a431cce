use Rattle.cper_sections.proofs.TableLemmas.{owned, within}
use Rattle.cper_sections.proofs.laws.each_byte_is_of_one_field.Goals as goal

pub returns-clause-owned : goal.returns-clause-owned
returns-clause-owned c = owned

pub returns-clause-within : goal.returns-clause-within
returns-clause-within c = within

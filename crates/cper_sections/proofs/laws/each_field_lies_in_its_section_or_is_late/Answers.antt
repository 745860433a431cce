use Rattle.cper_sections.proofs.TableLemmas.{late}
use Rattle.cper_sections.proofs.laws.each_field_lies_in_its_section_or_is_late.Goals as goal

pub returns : goal.returns
returns c = late

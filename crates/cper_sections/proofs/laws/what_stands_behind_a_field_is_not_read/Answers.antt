use Rattle.cper_sections.proofs.FieldLemmas.{number_of-append, bytes_of-append, text_of-append}
use Rattle.cper_sections.proofs.laws.what_stands_behind_a_field_is_not_read.Goals as goal

pub returns-clause-number : goal.returns-clause-number
returns-clause-number c = number_of-append

pub returns-clause-bytes : goal.returns-clause-bytes
returns-clause-bytes c = bytes_of-append

pub returns-clause-text : goal.returns-clause-text
returns-clause-text c = text_of-append

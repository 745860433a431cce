use Rattle.cper_sections.proofs.TableLemmas.{kind_of-guid_of, guid_named}
use Rattle.cper_sections.proofs.laws.each_kind_has_its_own_guid.Goals as goal

pub returns-clause-named : goal.returns-clause-named
returns-clause-named c = kind_of-guid_of

pub returns-clause-only : goal.returns-clause-only
returns-clause-only c = guid_named

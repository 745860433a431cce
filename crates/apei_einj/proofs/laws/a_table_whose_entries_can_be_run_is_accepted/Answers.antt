use Rattle.apei_einj.proofs.AcceptedLemmas.{accepted_of}
use Rattle.apei_einj.proofs.laws.a_table_whose_entries_can_be_run_is_accepted.Goals as goal

pub returns : goal.returns
returns c = accepted_of

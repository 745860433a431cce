use Rattle.apei_einj.proofs.LawLemmas.{runnable_of, anchored_of}
use Rattle.apei_einj.proofs.laws.each_entry_of_an_accepted_table_can_be_run.Goals as goal

pub returns-clause-runnable : goal.returns-clause-runnable
returns-clause-runnable c = runnable_of

pub returns-clause-anchored : goal.returns-clause-anchored
returns-clause-anchored c = anchored_of

use Rattle.fw_sim.proofs.QueueLemmas.{raise_appends}
use Rattle.fw_sim.proofs.laws.a_raise_appends_to_the_queue_of_its_source.Goals as goal

pub returns : goal.returns
returns c = λ old new source block raises queues is. raise_appends old new source block raises queues is

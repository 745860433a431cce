use Rattle.apei_mem_bus.proofs.DeterminedLemmas.{mem_determined}
use Rattle.apei_mem_bus.proofs.laws.an_access_in_memory_has_one_outcome.Goals as goal

pub returns : goal.returns
returns c = mem_determined

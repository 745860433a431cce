use Rattle.apei_einj.proofs.DeterminedLemmas.{runs_one, injects_one}
use Rattle.apei_einj.proofs.laws.an_injection_ends_in_one_way.Goals as goal

pub returns-clause-injections : goal.returns-clause-injections
returns-clause-injections g c = λ is entries. injects_one g.B.Bus.step is entries

pub returns-clause-actions : goal.returns-clause-actions
returns-clause-actions g c = λ is. runs_one g.B.Bus.step is

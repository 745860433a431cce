use Rattle.std.proofs.Common.{rules}
use Rattle.nmi_bench.proofs.PortLemmas.{shown_behind}
use Rattle.nmi_bench.proofs.port.copy_rest.Goals as goal

pub returns-in-Some-Some-clause-copied : goal.returns-in-Some-Some-clause-copied
returns-in-Some-Some-clause-copied c = λ same. shown_behind 20 c.args.block.now c.in-Some-Some.rest.now (search rules) (search rules)

-- The copy was made, or there was nothing to copy.
use Rattle.std.proofs.Common.{arith}
use Rattle.std.proofs.lemmas.Bool.Decides.{nat_tests}
use Rattle.apei_einj.proofs.PartLemmas.{takes_more, takes_none}
use Rattle.apei_einj.proofs.access.take_any.Goals as goal

pub returns-then-is_empty : goal.returns-then-is_empty
returns-then-is_empty g c = takes_none _ _ c.args.into.now _ _ (grind (arith, nat_tests))

pub returns : goal.returns
returns g c = takes_more _ _ _ _ _ _ _ _ (grind (arith, nat_tests)) c.take.ensures

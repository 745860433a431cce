-- The access was made, or it failed.
use Rattle.std.proofs.Common.{refl, rules}
use Rattle.apei_einj.specs.Part.{Takes}
use Rattle.apei_einj.proofs.PartLemmas.{left_filled}
use Rattle.apei_einj.proofs.access.take.Goals as goal

pub returns-in_err-copy : goal.returns-in_err-copy
unfolding Takes
returns-in_err-copy g c =
    left_filled c.copy.new.into c.from_residual.result c.from_residual.ensures.1 (record { does = (refl, c.in_err-copy.ensures.access.err); counted = c.in_err-copy.ensures.count.cause })

pub returns : goal.returns
unfolding Takes
returns g c = record { does = (search rules, c.in_ok-copy.ensures.access.ok); counted = c.in_ok-copy.ensures.count.unfailed }

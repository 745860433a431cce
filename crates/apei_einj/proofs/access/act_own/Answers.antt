-- The entries have run, or were cut off.
use Rattle.std.proofs.Common.{refl}
use Rattle.apei_einj.specs.Part.{Acts}
use Rattle.apei_einj.proofs.PartLemmas.{left_by}
use Rattle.apei_einj.proofs.access.act_own.Goals as goal

pub returns-in_err-run_entries : goal.returns-in_err-run_entries
unfolding Acts
returns-in_err-run_entries g c = left_by c.from_residual.result c.from_residual.ensures.1 (record { does = (refl, c.in_err-run_entries.ensures.err); counted = c.in_err-run_entries.ensures.count.cause })

pub returns : goal.returns
unfolding Acts
returns g c = record { does = c.in_ok-run_entries.ensures.ok; counted = c.in_ok-run_entries.ensures.count.unfailed }

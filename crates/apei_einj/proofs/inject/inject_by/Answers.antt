-- What came before the refusal or the failed access was done.
use Rattle.apei_einj.specs.Injection.{Injects}
use Rattle.apei_einj.proofs.PartLemmas.{left_by, stops, goes_on, gives}
use Rattle.apei_einj.proofs.inject.inject_by.Goals as goal

pub returns-in_err-prepare : goal.returns-in_err-prepare
unfolding Injects
returns-in_err-prepare g c = left_by c.from_residual.result c.from_residual.ensures.1 (stops _ _ c.in_err-prepare.ensures)

pub returns-in_err-busy_reads : goal.returns-in_err-busy_reads
unfolding Injects
returns-in_err-busy_reads g c =
    left_by c.from_residual-in_err-busy_reads.result c.from_residual-in_err-busy_reads.ensures.1
    (goes_on _ _ _ c.in_ok-prepare.ensures
    (stops _ _ c.in_err-busy_reads.ensures))

pub returns-in_err-finish : goal.returns-in_err-finish
unfolding Injects
returns-in_err-finish g c =
    left_by c.from_residual-in_err-finish.result c.from_residual-in_err-finish.ensures.1
    (goes_on _ _ _ c.in_ok-prepare.ensures
    (goes_on _ _ _ c.in_ok-busy_reads.ensures
    (stops _ _ c.in_err-finish.ensures)))

pub returns : goal.returns
unfolding Injects
returns g c =
    goes_on _ _ _ c.in_ok-prepare.ensures
    (goes_on _ _ _ c.in_ok-busy_reads.ensures
    (goes_on _ _ _ c.in_ok-finish.ensures (gives _ _ _)))

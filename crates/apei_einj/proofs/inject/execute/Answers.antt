-- What came before the refusal or the failed access was done.
use Rattle.apei_einj.specs.Injection.{Executes}
use Rattle.apei_einj.proofs.PartLemmas.{left_by, stops, goes_on, tests, gives}
use Rattle.apei_einj.proofs.inject.execute.Goals as goal

pub returns-in_err-act : goal.returns-in_err-act
unfolding Executes
returns-in_err-act g c = left_by c.from_residual.result c.from_residual.ensures.1 (stops _ _ c.in_err-act.ensures)

pub returns-in_err-busy_reads : goal.returns-in_err-busy_reads
unfolding Executes
returns-in_err-busy_reads g c =
    left_by c.from_residual-in_err-busy_reads.result c.from_residual-in_err-busy_reads.ensures.1
    (goes_on _ _ _ c.in_ok-act.ensures
    (stops _ _ c.in_err-busy_reads.ensures))

pub returns-in_err-status : goal.returns-in_err-status
unfolding Executes
returns-in_err-status g c =
    left_by c.from_residual-in_err-status.result c.from_residual-in_err-status.ensures.1
    (goes_on _ _ _ c.in_ok-act.ensures
    (goes_on _ _ _ c.in_ok-busy_reads.ensures
    (stops _ _ c.in_err-status.ensures)))

pub returns-in_err-check_status : goal.returns-in_err-check_status
unfolding Executes
returns-in_err-check_status g c =
    left_by c.from_residual-in_err-check_status.result c.from_residual-in_err-check_status.ensures.1
    (goes_on _ _ _ c.in_ok-act.ensures
    (goes_on _ _ _ c.in_ok-busy_reads.ensures
    (goes_on _ _ _ c.in_ok-status.ensures
    (stops _ _ (tests _ _ _ c.in_err-check_status.ensures.value c.in_err-check_status.ensures.unfailed)))))

pub returns : goal.returns
unfolding Executes
returns g c =
    goes_on _ _ _ c.in_ok-act.ensures
    (goes_on _ _ _ c.in_ok-busy_reads.ensures
    (goes_on _ _ _ c.in_ok-status.ensures
    (goes_on _ _ _ (tests _ _ _ c.in_ok-check_status.ensures.value c.in_ok-check_status.ensures.unfailed)
    (gives _ _ _))))

-- What came before the refusal or the failed access was done.
use Rattle.apei_einj.specs.Injection.{Ends}
use Rattle.apei_einj.proofs.PartLemmas.{left_by, stops, goes_on, gives}
use Rattle.apei_einj.proofs.inject.finish.Goals as goal

pub returns-in_err-address : goal.returns-in_err-address
unfolding Ends
returns-in_err-address g c = left_by c.from_residual.result c.from_residual.ensures.1 (stops _ _ c.in_err-address.ensures)

pub returns-in_err-trigger : goal.returns-in_err-trigger
unfolding Ends
returns-in_err-trigger g c =
    left_by c.from_residual-in_err-trigger.result c.from_residual-in_err-trigger.ensures.1
    (goes_on _ _ _ c.in_ok-address.ensures
    (stops _ _ c.in_err-trigger.ensures))

pub returns-in_err-act : goal.returns-in_err-act
unfolding Ends
returns-in_err-act g c =
    left_by c.from_residual-in_err-act.result c.from_residual-in_err-act.ensures.1
    (goes_on _ _ _ c.in_ok-address.ensures
    (goes_on _ _ _ c.in_ok-trigger.ensures
    (stops _ _ c.in_err-act.ensures)))

pub returns : goal.returns
unfolding Ends
returns g c =
    goes_on _ _ _ c.in_ok-address.ensures
    (goes_on _ _ _ c.in_ok-trigger.ensures
    (goes_on _ _ _ c.in_ok-act.ensures (gives _ _ _)))

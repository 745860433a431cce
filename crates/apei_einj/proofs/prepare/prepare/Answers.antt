-- What came before the refusal or the failed access was done.
use Rattle.apei_einj.specs.Injection.{Prepares}
use Rattle.apei_einj.proofs.PartLemmas.{left_by, stops, goes_on, tests}
use Rattle.apei_einj.proofs.prepare.prepare.Goals as goal

pub returns-in_err-check_place : goal.returns-in_err-check_place
unfolding Prepares
returns-in_err-check_place g c =
    left_by c.from_residual.result c.from_residual.ensures.1
    (stops _ _ (tests _ _ _ c.in_err-check_place.ensures.value c.in_err-check_place.ensures.unfailed))

pub returns-in_err-types : goal.returns-in_err-types
unfolding Prepares
returns-in_err-types g c =
    left_by c.from_residual-in_err-types.result c.from_residual-in_err-types.ensures.1
    (goes_on _ _ _ (tests _ _ _ c.in_ok-check_place.ensures.value c.in_ok-check_place.ensures.unfailed)
    (stops _ _ c.in_err-types.ensures))

pub returns-in_err-check_type : goal.returns-in_err-check_type
unfolding Prepares
returns-in_err-check_type g c =
    left_by c.from_residual-in_err-check_type.result c.from_residual-in_err-check_type.ensures.1
    (goes_on _ _ _ (tests _ _ _ c.in_ok-check_place.ensures.value c.in_ok-check_place.ensures.unfailed)
    (goes_on _ _ _ c.in_ok-types.ensures
    (stops _ _ (tests _ _ _ c.in_err-check_type.ensures.value c.in_err-check_type.ensures.unfailed))))

pub returns-in_err-act : goal.returns-in_err-act
unfolding Prepares
returns-in_err-act g c =
    left_by c.from_residual-in_err-act.result c.from_residual-in_err-act.ensures.1
    (goes_on _ _ _ (tests _ _ _ c.in_ok-check_place.ensures.value c.in_ok-check_place.ensures.unfailed)
    (goes_on _ _ _ c.in_ok-types.ensures
    (goes_on _ _ _ (tests _ _ _ c.in_ok-check_type.ensures.value c.in_ok-check_type.ensures.unfailed)
    (stops _ _ c.in_err-act.ensures))))

pub returns : goal.returns
unfolding Prepares
returns g c =
    goes_on _ _ _ (tests _ _ _ c.in_ok-check_place.ensures.value c.in_ok-check_place.ensures.unfailed)
    (goes_on _ _ _ c.in_ok-types.ensures
    (goes_on _ _ _ (tests _ _ _ c.in_ok-check_type.ensures.value c.in_ok-check_type.ensures.unfailed)
    (goes_on _ _ _ c.in_ok-act.ensures c.set_type.ensures)))

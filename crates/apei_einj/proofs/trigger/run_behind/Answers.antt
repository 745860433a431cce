-- What came before the refusal or the failed access was done.
use Rattle.std.proofs.Common.{sym}
use Rattle.apei_einj.specs.Trigger.{TriggersBehind}
use Rattle.apei_einj.proofs.PartLemmas.{left_by, stops, goes_on, tests, gives}
use Rattle.apei_einj.proofs.TriggerLemmas.{triggers_run}
use Rattle.apei_einj.proofs.trigger.run_behind.Goals as goal

pub act_own-requires : goal.act_own-requires
act_own-requires g c = triggers_run c.read_entries.new.into (sym c.in_ok-check_entries.ensures.value)

pub returns-in_err-take_any : goal.returns-in_err-take_any
unfolding TriggersBehind
returns-in_err-take_any g c = left_by c.from_residual.result c.from_residual.ensures.1 (stops _ _ c.in_err-take_any.ensures)

pub returns-in_err-check_entries : goal.returns-in_err-check_entries
unfolding TriggersBehind
returns-in_err-check_entries g c =
    left_by c.from_residual-in_err-check_entries.result c.from_residual-in_err-check_entries.ensures.1
    (goes_on _ _ _ c.in_ok-take_any.ensures
    (stops _ _ (tests _ _ _ (rw c.read_entries.ensures at c.in_err-check_entries.ensures.value) c.in_err-check_entries.ensures.unfailed)))

pub returns-in_err-act_own : goal.returns-in_err-act_own
unfolding TriggersBehind
returns-in_err-act_own g c =
    left_by c.from_residual-in_err-act_own.result c.from_residual-in_err-act_own.ensures.1
    (goes_on _ _ _ c.in_ok-take_any.ensures
    (goes_on _ _ _ (tests _ _ _ (rw c.read_entries.ensures at c.in_ok-check_entries.ensures.value) c.in_ok-check_entries.ensures.unfailed)
    (stops _ _ (rw c.read_entries.ensures at c.in_err-act_own.ensures))))

pub returns : goal.returns
unfolding TriggersBehind
returns g c =
    goes_on _ _ _ c.in_ok-take_any.ensures
    (goes_on _ _ _ (tests _ _ _ (rw c.read_entries.ensures at c.in_ok-check_entries.ensures.value) c.in_ok-check_entries.ensures.unfailed)
    (goes_on _ _ _ (rw c.read_entries.ensures at c.in_ok-act_own.ensures) (gives _ _ _)))

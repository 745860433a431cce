-- What came before the refusal or the failed access was done.
use Rattle.std.proofs.Common.{◌≡◌, ◌+◌, arith}
use Rattle.apei_einj.specs.Trigger.{Triggers}
use Rattle.apei_einj.proofs.PartLemmas.{left_by, stops, goes_on, tests}
use Rattle.apei_einj.proofs.trigger.trigger.Goals as goal

pub returns-in_err-take : goal.returns-in_err-take
unfolding Triggers
returns-in_err-take g c =
    let front : c.args.address + 0 ≡ c.args.address = omega arith in
    left_by c.from_residual.result c.from_residual.ensures.1 (stops _ _ (rw front at c.in_err-take.ensures))

pub returns-in_err-check_header : goal.returns-in_err-check_header
unfolding Triggers
returns-in_err-check_header g c =
    let front : c.args.address + 0 ≡ c.args.address = omega arith in
    left_by c.from_residual-in_err-check_header.result c.from_residual-in_err-check_header.ensures.1
    (goes_on _ _ _ (rw front at c.in_ok-take.ensures)
    (stops _ _ (tests _ _ _ c.in_err-check_header.ensures.value c.in_err-check_header.ensures.unfailed)))

pub returns : goal.returns
unfolding Triggers
returns g c =
    let front : c.args.address + 0 ≡ c.args.address = omega arith in
    goes_on _ _ _ (rw front at c.in_ok-take.ensures)
    (goes_on _ _ _ (tests _ _ _ c.in_ok-check_header.ensures.value c.in_ok-check_header.ensures.unfailed)
    (rw c.u32_at.ensures at c.run_counted.ensures))

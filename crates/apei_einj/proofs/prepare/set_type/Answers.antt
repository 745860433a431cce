-- The type was set in one of two ways.
use Rattle.std.proofs.Common.{sym}
use Rattle.apei_einj.specs.Injection.{SetsType}
use Rattle.apei_einj.proofs.PartLemmas.{left_by, stops, goes_on, gives}
use Rattle.apei_einj.proofs.RefusedLemmas.{anchor-has_room}
use Rattle.apei_einj.proofs.prepare.set_type.Goals as goal

pub write_address-requires : goal.write_address-requires
write_address-requires g c = anchor-has_room c.args.entries.now c.in-Some.anchor.now (sym c.in-Some.ensures) c.requires

pub returns-in-Some : goal.returns-in-Some
unfolding SetsType
returns-in-Some g c = rw (sym c.in-Some.ensures) c.write_address.ensures

pub returns-in_err-act-in-None : goal.returns-in_err-act-in-None
unfolding SetsType
returns-in_err-act-in-None g c =
    rw (sym c.in-None.ensures) (left_by c.from_residual.result c.from_residual.ensures.1 (stops _ _ (rw c.from.ensures at c.in_err-act-in-None.ensures)))

pub returns-in_ok-act-in-None : goal.returns-in_ok-act-in-None
unfolding SetsType
returns-in_ok-act-in-None g c =
    rw (sym c.in-None.ensures) (goes_on _ _ _ (rw c.from.ensures at c.in_ok-act-in-None.ensures) (gives _ _ _))

-- The fields before the one that failed were written.
use Rattle.std.proofs.Common.{◌∙◌}
use Rattle.apei_einj.proofs.InjectLemmas.{row_stops, row_goes_on, row_finishes}
use Rattle.apei_einj.proofs.PartLemmas.{left_by}
use Rattle.apei_einj.proofs.prepare.write_address.Goals as goal

pub returns-in_err-store : goal.returns-in_err-store
returns-in_err-store g c =
    left_by c.from_residual.result c.from_residual.ensures.1
    (row_stops _ _ _ _ c.from.ensures c.in_err-store.ensures)

pub returns-in_err-store-2 : goal.returns-in_err-store-2
returns-in_err-store-2 g c =
    left_by c.from_residual-in_err-store-2.result c.from_residual-in_err-store-2.ensures.1
    (row_goes_on _ _ _ _ _ c.from.ensures c.in_ok-store.ensures
    (row_stops _ _ _ _ (c.from-2.ensures ∙ c.flags.ensures) c.in_err-store-2.ensures))

pub returns-in_err-store-3 : goal.returns-in_err-store-3
returns-in_err-store-3 g c =
    left_by c.from_residual-in_err-store-3.result c.from_residual-in_err-store-3.ensures.1
    (row_goes_on _ _ _ _ _ c.from.ensures c.in_ok-store.ensures
    (row_goes_on _ _ _ _ _ (c.from-2.ensures ∙ c.flags.ensures) c.in_ok-store-2.ensures
    (row_stops _ _ _ _ (c.from-3.ensures ∙ c.processor.ensures) c.in_err-store-3.ensures)))

pub returns-in_err-store-4 : goal.returns-in_err-store-4
returns-in_err-store-4 g c =
    left_by c.from_residual-in_err-store-4.result c.from_residual-in_err-store-4.ensures.1
    (row_goes_on _ _ _ _ _ c.from.ensures c.in_ok-store.ensures
    (row_goes_on _ _ _ _ _ (c.from-2.ensures ∙ c.flags.ensures) c.in_ok-store-2.ensures
    (row_goes_on _ _ _ _ _ (c.from-3.ensures ∙ c.processor.ensures) c.in_ok-store-3.ensures
    (row_stops _ _ _ _ c.address.ensures c.in_err-store-4.ensures))))

pub returns-in_err-store-5 : goal.returns-in_err-store-5
returns-in_err-store-5 g c =
    left_by c.from_residual-in_err-store-5.result c.from_residual-in_err-store-5.ensures.1
    (row_goes_on _ _ _ _ _ c.from.ensures c.in_ok-store.ensures
    (row_goes_on _ _ _ _ _ (c.from-2.ensures ∙ c.flags.ensures) c.in_ok-store-2.ensures
    (row_goes_on _ _ _ _ _ (c.from-3.ensures ∙ c.processor.ensures) c.in_ok-store-3.ensures
    (row_goes_on _ _ _ _ _ c.address.ensures c.in_ok-store-4.ensures
    (row_stops _ _ _ _ c.mask.ensures c.in_err-store-5.ensures)))))

pub returns : goal.returns
returns g c =
    row_goes_on _ _ _ _ _ c.from.ensures c.in_ok-store.ensures
    (row_goes_on _ _ _ _ _ (c.from-2.ensures ∙ c.flags.ensures) c.in_ok-store-2.ensures
    (row_goes_on _ _ _ _ _ (c.from-3.ensures ∙ c.processor.ensures) c.in_ok-store-3.ensures
    (row_goes_on _ _ _ _ _ c.address.ensures c.in_ok-store-4.ensures
    (row_goes_on _ _ _ _ _ c.mask.ensures c.in_ok-store-5.ensures
    (row_finishes _ _ _ _ (c.from-4.ensures ∙ c.pcie.ensures) c.store-6.ensures)))))

-- The parts of the listing, in order.
use Rattle.ghes_replay.specs.Views.{done_of}
use Rattle.ghes_replay.proofs.DoneLemmas.{listing_refused, listing_goes}
use Rattle.ghes_replay.proofs.check.check.Goals as goal

pub returns-in-Ok : goal.returns-in-Ok
returns-in-Ok g c =
    listing_goes _ _ c.args.hest.now c.args.einj.now c.in-Ok.found c.in-Ok.injection (done_of c.list_both.result)
    c.in-Ok.ensures (rw c.sources.ensures.list at c.list_both.ensures)

pub returns-in-Err : goal.returns-in-Err
returns-in-Err g c = listing_refused _ _ c.args.hest.now c.args.einj.now c.in-Err.refusal c.in-Err.ensures

-- The parts of the replay, in order.
use Rattle.ghes_replay.specs.Views.{done_of}
use Rattle.ghes_replay.proofs.DoneLemmas.{no_tables, replay_goes}
use Rattle.ghes_replay.proofs.replay.replay.Goals as goal

pub returns-in-Ok : goal.returns-in-Ok
returns-in-Ok g c =
    replay_goes _ _ _ c.args.hest.now c.args.einj.now c.args.script.now c.in-Ok.found c.in-Ok.injection c.in-Ok.ensures (done_of c.replay_on.result) c.replay_on.ensures

pub returns-in-Err : goal.returns-in-Err
returns-in-Err g c = no_tables _ _ c.args.hest.now c.args.einj.now c.args.script.now c.in-Err.refusal c.in-Err.ensures

-- There is no machine of the tables.
use Rattle.ghes_replay.proofs.DoneLemmas.{no_machine}
use Rattle.ghes_replay.proofs.replay.replay_on.Goals as goal

pub returns-in-Err : goal.returns-in-Err
returns-in-Err g c =
    no_machine _ c.args.script.now c.args.found.now c.args.injection c.in-Err.refusal (rw c.as_ref.ensures.value at c.in-Err.ensures.refused)

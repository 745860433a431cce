use Rattle.ghes_replay.specs.Views.{done_of}
use Rattle.ghes_replay.proofs.PlayLemmas.{run_sound, runs_told, runs_stopped}
use Rattle.ghes_replay.proofs.playing.replay_lines.Goals as goal

pub ended-requires : goal.ended-requires
ended-requires c =
    run_sound c.in_ok-rig.rig.machine c.args.lines.now _ _ _ c.in-Ok.ledger c.in_ok-rig.ensures.ready.sound c.in-Ok.ensures.ok

pub returns-in-Ok : goal.returns-in-Ok
returns-in-Ok c =
    runs_told c.args.hest.now c.args.einj c.args.lines.now c.args.platform c.requires.platform c.in_ok-rig.rig c.in_ok-rig.ensures
    c.run_uncounted.new.rig c.in-Ok.ledger c.run_uncounted.ensures.machine c.in-Ok.ensures.ok (done_of c.ended.result) c.ended.ensures.told c.ended.ensures.refused

pub returns : goal.returns
returns c =
    runs_stopped c.args.hest.now c.args.einj c.args.lines.now c.args.platform c.requires.platform c.in_ok-rig.rig c.in_ok-rig.ensures
    c.in-Err.stop c.stopped.result c.stopped.ensures c.in-Err.ensures.err

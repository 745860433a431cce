-- The script, behind the machine of its tables.
use Rattle.std.proofs.Common.{is_some}
use Rattle.apei_hest.specs.Refusal.{enabled}
use Rattle.ghes_replay.specs.Planned.{HasMachine}
use Rattle.ghes_replay.specs.Views.{done_of}
use Rattle.ghes_replay.proofs.DoneLemmas.{script_stops, script_goes}
use Rattle.ghes_replay.proofs.replay.replay_script.Goals as goal

pub replay_lines-requires-clause-allowed : goal.replay_lines-requires-clause-allowed
replay_lines-requires-clause-allowed g c =
    let loaded = rw c.is_some.ensures at c.in-Ok.ensures in
    let spelled = loaded.found in
    (is_some c.args.injection, rw c.lines.ensures (c.each_line_of_a_script_is_allowed.ensures _ spelled.0 c.in-Ok.script spelled.2))

pub returns-in-Ok : goal.returns-in-Ok
returns-in-Ok g c =
    let machine : HasMachine (enabled c.args.found.now) c.args.injection = record {
      map = c.requires.map;
      is_map = c.requires.is_map;
      unrefused = λ error refused. c.tables_have_one_map.ensures.refusals _ _ c.requires.map error c.requires.is_map refused;
    } in
    script_goes _ _ c.args.script.now c.args.found.now c.args.injection machine c.in-Ok.script (done_of c.replay_lines.result) (rw c.is_some.ensures at c.in-Ok.ensures)
    (rw c.lines.ensures at c.replay_lines.ensures)

pub returns-in-Err : goal.returns-in-Err
returns-in-Err g c =
    let machine : HasMachine (enabled c.args.found.now) c.args.injection = record {
      map = c.requires.map;
      is_map = c.requires.is_map;
      unrefused = λ error refused. c.tables_have_one_map.ensures.refusals _ _ c.requires.map error c.requires.is_map refused;
    } in
    script_stops _ _ c.args.script.now c.args.found.now c.args.injection machine c.in-Err.refusal (rw c.is_some.ensures at c.in-Err.ensures)

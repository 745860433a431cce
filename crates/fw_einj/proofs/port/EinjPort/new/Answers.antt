use Rattle.std.proofs.Common.{refl, ap, subst, ◌∙◌}
use Rattle.apei_einj.proofs.JudgeLemmas.{runnable_accepted}
use Rattle.fw_cells.specs.Mapping.{IsMapped}
use Rattle.fw_cells.specs.Runs.{cells_of}
use Rattle.fw_einj.specs.New.{port_runs}
use Rattle.fw_einj.proofs.port.EinjPort.new.Goals as goal

pub port_runs-requires : goal.port_runs-requires
port_runs-requires c = rw c.entries.ensures.list (runnable_accepted c.args.einj.now c.entries.ensures.accepted.runnable)

pub returns : goal.returns
returns c =
    let runs = c.as_slice.ensures.value ∙ c.in_ok-runs.ensures ∙ ap (λ entries. port_runs entries c.board_of-board.result) c.entries.ensures.list in
    record {
      board = c.board_of-board.ensures;
      mapped = subst (IsMapped (cells_of c.in_ok-new.field-0)) runs c.in_ok-new.ensures;
      idle = refl;
      unarmed = refl;
      unmade = refl;
    }

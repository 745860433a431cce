use Rattle.apei_base.specs.Firmware.{shown}
use Rattle.fw_cells.specs.Runs.{cells_of, AreRuns}
use Rattle.fw_cells.specs.Changes.{AreSame}
use Rattle.fw_cells.proofs.ChangeLemmas.{with_front}
use Rattle.fw_cells.proofs.change.put_each.Given as goal

abbrev pub invariant-loop-step : goal.invariant-loop-step
invariant-loop-step l = record {
  order : AreRuns l.runs.items;
  put : AreSame (cells_of l.runs.items) (with_front (cells_of l.initial.runs.items) l.space l.first l.step (shown 0 l.room l.block));
}

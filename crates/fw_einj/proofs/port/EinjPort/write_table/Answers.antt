use Rattle.std.proofs.Common.{ap, ◌∙◌}
use Rattle.apei_base.specs.Firmware.{shown}
use Rattle.apei_base.specs.declared.region.Space.TheVariants.{Memory}
use Rattle.fw_cells.specs.Changes.{with_bytes_at}
use Rattle.fw_cells.specs.Runs.{cells_of}
use Rattle.fw_einj.specs.Machine.{machine_of, table_written}
use Rattle.fw_einj.proofs.FieldLemmas.{same_cells}
use Rattle.fw_einj.proofs.MachineLemmas.{with_cells}
use Rattle.fw_einj.proofs.port.EinjPort.write_table.Goals as goal

pub returns : goal.returns
unfolding table_written
returns c =
    let old = cells_of c.args.self.now.cells in
    ap (with_cells (machine_of c.args.self.now))
    (same_cells (cells_of c.put.new.self) _ c.put.ensures
    ∙ ap (λ bytes. with_bytes_at old Memory c.args.self.now.board.table (shown 0 48 bytes)) c.table_bytes.ensures)

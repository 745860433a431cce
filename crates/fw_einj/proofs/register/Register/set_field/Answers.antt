use Rattle.fw_cells.specs.Runs.{cells_of}
use Rattle.apei_base.specs.Bus.{reach_of}
use Rattle.fw_einj.proofs.FieldLemmas.{field_was_set}
use Rattle.fw_einj.proofs.register.Register.set_field.Goals as goal

pub returns : goal.returns
returns c =
    field_was_set c.args.self.now c.args.value (cells_of c.args.cells.now) (cells_of c.write.new.self) (reach_of c.region-region.result)
    c.read-cell.result c.with_field.result c.region-region.ensures c.read-cell.ensures.value c.with_field.ensures c.write.ensures

use Rattle.std.proofs.Common.{ap}
use Rattle.fw_cells.specs.Runs.{cells_of}
use Rattle.fw_einj.specs.Machine.{machine_of, written}
use Rattle.fw_einj.proofs.FieldLemmas.{same_cells}
use Rattle.fw_einj.proofs.MachineLemmas.{with_cells}
use Rattle.fw_einj.proofs.port.EinjPort.put.Goals as goal

pub returns : goal.returns
unfolding written
returns c = ap (with_cells (machine_of c.args.self.now)) (same_cells (cells_of c.write.new.self) _ c.write.ensures)

use Rattle.std.proofs.Common.{ap}
use Rattle.fw_einj.specs.Machine.{machine_of, table_told}
use Rattle.fw_einj.proofs.MachineLemmas.{with_cells}
use Rattle.fw_einj.proofs.port.EinjPort.tell_table.Goals as goal

pub returns : goal.returns
unfolding table_told
returns c = ap (with_cells (machine_of c.args.self.now)) c.set_field.ensures

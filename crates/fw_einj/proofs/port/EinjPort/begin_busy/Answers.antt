use Rattle.std.proofs.Common.{ap, ◌∙◌}
use Rattle.apei_base.specs.Bus.{Cells}
use Rattle.fw_einj.specs.Field.{field_set}
use Rattle.fw_einj.specs.Machine.{machine_of, busy_begun}
use Rattle.fw_einj.proofs.port.EinjPort.begin_busy.Goals as goal

pub returns : goal.returns
unfolding busy_begun
returns c =
    let old = machine_of c.args.self.now in
    ap (λ (cells : Cells). record old { busy = old.setup.busy; cells = cells })
    (c.set_field.ensures ∙ ap (λ value. field_set old.board.busy value old.cells) c.first_value-value.ensures)

use Rattle.fw_cells.specs.Runs.{cells_of}
use Rattle.std.proofs.Common.{ap, ◌∙◌, arith}
use Rattle.fw_einj.specs.Field.{field_set}
use Rattle.fw_einj.specs.Machine.{machine_of}
use Rattle.fw_einj.proofs.MachineLemmas.{counted_last, counted_more}
use Rattle.fw_einj.proofs.port.EinjPort.count.Goals as goal

pub returns-then-self-eq0 : goal.returns-then-self-eq0
returns-then-self-eq0 c =
    let old = machine_of c.args.self.now in
    counted_last old (cells_of c.set_field.new.cells) (omega (arith, c.if-self-eq0.true))
    (c.set_field.ensures ∙ ap (λ value. field_set old.board.busy value old.cells) c.idle_value-value.ensures)

pub returns-else-self-eq0 : goal.returns-else-self-eq0
returns-else-self-eq0 c = counted_more (machine_of c.args.self.now) (omega (arith, c.if-self-eq0.false))

use Rattle.std.proofs.Common.{◌≡◌, ap, ◌∙◌, arith}
use Rattle.fw_einj.specs.Field.{field_set}
use Rattle.fw_einj.specs.Machine.{machine_of, status_told}
use Rattle.fw_einj.proofs.MachineLemmas.{with_cells}
use Rattle.fw_einj.proofs.port.EinjPort.tell_status.Goals as goal

pub returns : goal.returns
unfolding status_told
returns c =
    let old = machine_of c.args.self.now in
    let from : c.from.result ≡ c.args.status = omega arith in
    ap (with_cells old) (c.set_field.ensures ∙ ap (λ value. field_set old.board.status value old.cells) from)

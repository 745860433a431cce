use Rattle.std.proofs.Common.{ℕ, ◌%◌, ◌^◌, ◌∙◌}
use Rattle.apei_base.specs.Bus.{reach_of}
use Rattle.apei_base.proofs.FirmwareLemmas.{ack_leaves, on_ok, on_err}
use Rattle.apei_base.proofs.firmware.write_ack.Goals as goal

pub returns-clause-ok : goal.returns-clause-ok
returns-clause-ok g c =
    let seen = g.P.Firmware.seen c.args.port.now in
    let value : ℕ = c.args.value % 2 ^ c.args.ack.now.width in
    on_ok c.write.result _ _
    (λ steps. (g.met.P.Firmware.moves _ _ _ steps).1
    ∙ ack_leaves seen (reach_of c.args.ack.now) value (g.met.P.Firmware.sound c.args.port.now).apart c.requires) c.write.ensures.access.ok

pub returns-clause-err : goal.returns-clause-err
returns-clause-err g c = on_err c.write.result _ _ (λ same. g.met.P.Firmware.same c.write.new.self c.args.port.now same) c.write.ensures.access.err

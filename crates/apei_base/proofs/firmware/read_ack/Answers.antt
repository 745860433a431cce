use Rattle.std.proofs.Common.{◌≡◌, ◌∙◌}
use Rattle.std.proofs.lemmas.Result.{IfOk-weaker}
use Rattle.apei_base.specs.Bus.{reach_of}
use Rattle.apei_base.proofs.FirmwareLemmas.{ack_answer, read_leaves, same_or_kept}
use Rattle.apei_base.proofs.firmware.read_ack.Goals as goal

pub returns-clause-value : goal.returns-clause-value
returns-clause-value g c =
    let seen = g.P.Firmware.seen c.args.port.now in
    IfOk-weaker c.read.result _ (λ value. value ≡ seen.cell)
    (λ value steps. ack_answer seen (reach_of c.args.ack.now) value c.requires (g.met.P.Firmware.moves _ _ _ steps).0)
    c.read.ensures.access.ok

pub returns-clause-kept : goal.returns-clause-kept
returns-clause-kept g c =
    same_or_kept g.P.Firmware.seen g.P.Bus.state c.read.result c.args.port.now c.read.new.self g.met.P.Firmware.same c.read.ensures.access.err
    (IfOk-weaker c.read.result _ _ (λ value steps. (g.met.P.Firmware.moves _ _ _ steps).1 ∙ read_leaves _ (reach_of c.args.ack.now) value) c.read.ensures.access.ok)

use Rattle.std.proofs.Common.{◌≡◌, ◌≤◌, ◌+◌, length, sym, ap, ◌∙◌, subst}
use Rattle.apei_base.specs.Firmware.{area_bytes}
use Rattle.apei_base.proofs.FirmwareLemmas.{copy_answer, copy_leaves, same_or_kept, on_ok}
use Rattle.apei_base.proofs.firmware.copy_area.Goals as goal

pub returns-clause-copied : goal.returns-clause-copied
returns-clause-copied g c =
    let seen = g.P.Firmware.seen c.args.port.now in
    let same : length c.copy.new.into ≡ length c.args.into.now = c.copy.auto.into in
    on_ok c.copy.result _ _
    (λ steps. copy_answer seen c.args.address c.args.skip c.copy.new.into c.requires.at
    (subst (λ n. c.args.skip + n ≤ seen.layout.room) (sym same) c.requires.within) (g.met.P.Firmware.moves _ _ _ steps).0
    ∙ ap (λ n. area_bytes c.args.skip n seen) same)
    c.copy.ensures.access.ok

pub returns-clause-kept : goal.returns-clause-kept
returns-clause-kept g c =
    same_or_kept g.P.Firmware.seen g.P.Bus.state c.copy.result c.args.port.now c.copy.new.self g.met.P.Firmware.same c.copy.ensures.access.err
    (on_ok c.copy.result _ _ (λ steps. (g.met.P.Firmware.moves _ _ _ steps).1 ∙ copy_leaves _ (c.args.address + c.args.skip) c.copy.new.into) c.copy.ensures.access.ok)

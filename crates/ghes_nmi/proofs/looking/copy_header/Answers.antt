use Rattle.std.proofs.Common.{rules, ◌≡◌, ◌∙◌, ap, length}
use Rattle.apei_base.proofs.FirmwareLemmas.{on_ok}
use Rattle.apei_base.specs.Firmware.{area_bytes}
use Rattle.ghes_nmi.proofs.AreaLemmas.{copied_front}
use Rattle.ghes_nmi.proofs.looking.copy_header.Goals as goal

pub returns-clause-value : goal.returns-clause-value
returns-clause-value g c =
    let old : length c.split_at_mut-front.result.0.now ≡ 20 = search rules in
    let long : length c.copy_area.new.into ≡ 20 = search rules in
    on_ok c.copy_area.result _ _
    (λ is. copied_front c.copy_area.new.into c.split_at_mut-front.result.1.now _ long (is ∙ ap (λ n. area_bytes 0 n (g.P.Firmware.seen c.args.port.now)) old))
    c.copy_area.ensures.copied

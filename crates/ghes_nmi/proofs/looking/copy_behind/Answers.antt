use Rattle.std.proofs.Common.{rules, ◌≡◌, ◌∙◌, ◌-◌, ap, length, take}
use Rattle.std.proofs.lemmas.List.{take-take}
use Rattle.apei_base.proofs.FirmwareLemmas.{on_ok}
use Rattle.apei_base.specs.Firmware.{area_bytes}
use Rattle.ghes_nmi.proofs.AreaLemmas.{copied_behind}
use Rattle.ghes_nmi.proofs.looking.copy_behind.Goals as goal

pub returns-clause-value : goal.returns-clause-value
returns-clause-value g c =
    let header : c.split_at_mut-header.result.0.now ≡ take 20 c.args.memory.now = search (rules, take-take) in
    let size : length c.split_at_mut-header.result.0.now ≡ 20 = search rules in
    let old : length c.split_at_mut-header.result.1.now ≡ c.args.count - 20 = search rules in
    let long : length c.copy_area.new.into ≡ c.args.count - 20 = search rules in
    on_ok c.copy_area.result _ _
    (λ is. copied_behind c.args.count c.args.memory.now c.split_at_mut-header.result.0.now c.copy_area.new.into c.split_at_mut-bytes.result.1.now _ header size long c.requires.whole (is ∙ ap (λ n. area_bytes 20 n (g.P.Firmware.seen c.args.port.now)) old))
    c.copy_area.ensures.copied

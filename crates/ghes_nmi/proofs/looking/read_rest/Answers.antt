use Rattle.std.proofs.Common.{rules, refl, ◌≡◌, ◌∙◌, ◌++◌, ◌-◌, ap, length, take}
use Rattle.apei_base.proofs.FirmwareLemmas.{on_ok}
use Rattle.apei_base.specs.Firmware.{standing, area_bytes}
use Rattle.ghes_nmi.proofs.AreaLemmas.{image_held, header_held, header_in_front, told_bytes}
use Rattle.ghes_nmi.proofs.looking.read_rest.Goals as goal

pub returns-clause-value : goal.returns-clause-value
returns-clause-value g c =
    let stands = standing (g.P.Firmware.seen c.args.port.now) in
    let front : take 20 c.deref_mut.result.now ≡ c.args.image.now.bytes =
    ap (take 20) c.deref_mut.ensures.value ∙ header_in_front c.image.inside.memory.items c.args.image.now.bytes c.image.inside.len stands (ap told_bytes c.image.view_is) c.image.invariant c.requires.header in
    let size : length c.copy_behind.new.memory ≡ c.image.inside.memory.len = search rules in
    on_ok c.copy_behind.result _ _
    (λ is. image_held c.args.image.now.bytes c.copy_behind.new.memory c.image.inside.memory.items c.args.count c.args.count c.image.inside.memory.len stands c.requires.header c.requires.whole refl size
    (is ∙ ap (λ h. h ++ area_bytes 20 (c.args.count - 20) (g.P.Firmware.seen c.args.port.now)) front))
    c.copy_behind.ensures.value

pub returns-clause-front : goal.returns-clause-front
returns-clause-front g c =
    on_ok c.copy_behind.result _ _
    (λ is. (header_held c.args.image.now.bytes _ c.args.count (standing (g.P.Firmware.seen c.args.port.now)) c.requires.header c.requires.whole is).0)
    (returns-clause-value g c)

pub returns-clause-long : goal.returns-clause-long
returns-clause-long g c =
    on_ok c.copy_behind.result _ _
    (λ is. (header_held c.args.image.now.bytes _ c.args.count (standing (g.P.Firmware.seen c.args.port.now)) c.requires.header c.requires.whole is).1)
    (returns-clause-value g c)

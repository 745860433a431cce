use Rattle.std.proofs.Common.{rules, ◌≡◌, ◌≤◌, ◌∙◌, sym, ap, length}
use Rattle.apei_base.specs.Firmware.{standing}
use Rattle.apei_base.specs.Number.{number_at}
use Rattle.cper_block.specs.Header.{header_of}
use Rattle.ghes_nmi.proofs.AreaLemmas.{header_stands, header_absent, told_status, front_held, front_long}
use Rattle.ghes_nmi.proofs.looking.read_header.Goals as goal

pub header_at-header-requires : goal.header_at-header-requires
header_at-header-requires g c =
    let size : length c.copy_header.new.memory ≡ c.image.inside.memory.len = search rules in
    let long : 20 ≤ length c.copy_header.new.memory = search rules in
    front_long c.as_slice.result.now c.copy_header.new.memory
    (c.as_slice.ensures ∙ front_held c.copy_header.new.memory c.image.inside.memory.items c.image.inside.memory.len size long) long

pub returns-then-header-eq0-clause-value : goal.returns-then-header-eq0-clause-value
returns-then-header-eq0-clause-value g c =
    let size : length c.copy_header.new.memory ≡ c.image.inside.memory.len = search rules in
    let long : 20 ≤ length c.copy_header.new.memory = search rules in
    let front = front_held c.copy_header.new.memory c.image.inside.memory.items c.image.inside.memory.len size long in
    header_absent (g.P.Firmware.seen c.args.port.now) _ c.as_slice.result.now (g.met.P.Firmware.sound c.args.port.now)
    (c.as_slice.ensures ∙ front ∙ c.in_ok-copy_header.ensures.value)
    (sym (ap told_status c.header_at-header.ensures) ∙ c.if-header-eq0.true)

pub returns-clause-value : goal.returns-clause-value
returns-clause-value g c =
    let size : length c.copy_header.new.memory ≡ c.image.inside.memory.len = search rules in
    let long : 20 ≤ length c.copy_header.new.memory = search rules in
    let front = front_held c.copy_header.new.memory c.image.inside.memory.items c.image.inside.memory.len size long in (
      header_stands (standing (g.P.Firmware.seen c.args.port.now)) _ (front ∙ c.in_ok-copy_header.ensures.value)
          (λ zero. c.if-header-eq0.false (ap told_status c.header_at-header.ensures ∙ ap (number_at 0 4) c.as_slice.ensures ∙ zero)),
      c.header_at-header.ensures ∙ ap header_of c.as_slice.ensures,
    )

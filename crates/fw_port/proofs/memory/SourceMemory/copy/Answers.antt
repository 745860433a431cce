use Rattle.std.proofs.Common.{◌≡◌, ◌+◌, ◌-◌, length, slice_index, sym, ap, ◌∙◌, arith}
use Rattle.apei_base.specs.Bus.{bytes_at}
use Rattle.apei_base.specs.declared.region.Space.TheVariants.{Memory}
use Rattle.fw_port.specs.Port.{seen_of}
use Rattle.fw_port.specs.Source.{area_byte, source_cells}
use Rattle.fw_port.specs.SourceLaws.{area_shown}
use Rattle.fw_port.proofs.memory.SourceMemory.copy.Goals as goal

pub returns-in-Some : goal.returns-in-Some
returns-in-Some c =
    let seen = seen_of c.args.self.now in
    let found = c.in-Some.ensures in
    let long : length c.show.new.into ≡ length c.args.into.now = c.show.ensures.length in
    let skip : c.args.first - seen.layout.area ≡ c.in-Some.place = omega (arith, found.here) in
    area_shown seen c.args.first c.show.new.into c.args.self.now.layout.is (omega (arith, found.here)) (omega (arith, found.here, found.within, long)) (λ k below.
    c.show.ensures.bytes k (omega (arith, below, long))
    ∙ ap (λ block. slice_index block (c.in-Some.place + k)) c.shown_block.ensures
    ∙ ap (λ n. area_byte seen (n + k)) (sym skip))
    ∙ ap (bytes_at (source_cells seen) Memory c.args.first) long

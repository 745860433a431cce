use Rattle.std.proofs.Common.{ap, bit_and, ◌∙◌}
use Rattle.apei_einj.proofs.ShiftLemmas.{checked_shr-or_zero}
use Rattle.apei_einj.proofs.entry.Entry.field.Goals as goal

pub returns : goal.returns
returns c =
    let entry = c.args.self.now in
    let shifted = checked_shr-or_zero c.checked_shr-shifted.result c.args.cell entry.register.bit_offset c.ranges.cell.fits (rw c.from.ensures at c.checked_shr-shifted.ensures) in
    ap (λ n. bit_and n entry.mask) (c.unwrap_or.ensures ∙ shifted)

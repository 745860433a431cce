use Rattle.std.proofs.Common.{◌≡◌, ◌∙◌, ap, ◌*◌, ◌%◌, ◌^◌, bit_and, bit_or}
use Rattle.ghes_nmi.proofs.WidthLemmas.{cut_twice, width_fits}
use Rattle.ghes_nmi.proofs.answering.written.Goals as goal

pub returns : goal.returns
returns c =
    let rule = c.args.rule.now in
    let width = rule.register.width in
    let number = bit_or (bit_and c.from.result c.shifted.result) c.shifted-2.result in
    let is : number ≡ bit_or (bit_and c.args.cell (rule.preserve * 2 ^ rule.bit_offset)) (rule.write * 2 ^ rule.bit_offset) =
    cc (c.from.ensures, c.shifted.ensures, c.shifted-2.ensures) in
    ap (λ n. n % 2 ^ width) c.low_bits.ensures ∙ cut_twice number width (width_fits width rule.register.width_is) ∙ ap (λ n. n % 2 ^ width) is

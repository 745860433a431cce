use Rattle.std.proofs.Common.{◌≡◌, ◌∙◌, ℕ, sym, ap, arith, ◌*◌, ◌%◌, ◌^◌, bit_and, bit_or}
use Rattle.ghes_nmi.proofs.answering.written_in_place.Goals as goal

pub returns : goal.returns
returns c =
    let rule = c.args.rule.now in
    let once : (n : ℕ) → n * 2 ^ 0 ≡ n = λ n. omega arith in
    let same : (n : ℕ) → n * 2 ^ rule.bit_offset ≡ n = λ n. ap (λ k. n * 2 ^ k) c.requires ∙ once n in
    sym (ap (λ p. bit_or (bit_and c.args.cell p) (rule.write * 2 ^ rule.bit_offset) % 2 ^ rule.register.width) (same rule.preserve)
    ∙ ap (λ w. bit_or (bit_and c.args.cell rule.preserve) w % 2 ^ rule.register.width) (same rule.write))

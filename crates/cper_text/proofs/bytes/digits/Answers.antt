-- The digits so far and those to come are all.
use Rattle.std.proofs.Common.{◌++◌, append_assoc, append-nil, ap, sym, ◌∙◌}
use Rattle.std.proofs.lemmas.Bool.{eqb-true}
use Rattle.hex.specs.Hex.{encode_lower}
use Rattle.cper_text.proofs.DigitLemmas.{digits_cut, digits_none}
use Rattle.cper_text.proofs.bytes.digits.Goals as goal

pub loop-rest-preserved : goal.loop-rest-preserved
loop-rest-preserved c =
    let before = c.loop-rest.text.added in
    let front = c.split_at.result.0.now in
    let back = c.split_at.result.1.now in
    let cut = digits_cut _ c.loop-rest.rest.now front back c.split_at.ensures.front c.split_at.ensures.back in (
      ap (λ xs. xs ++ encode_lower back) c.in_ok-few_digits.ensures.ok
          ∙ append_assoc before (encode_lower front) (encode_lower back) ∙ ap (λ xs. before ++ xs) cut
          ∙ c.loop-rest.invariant.0,
      c.in_ok-few_digits.ensures.front ∙ c.loop-rest.invariant.1,
    )

pub returns-clause-ok : goal.returns-clause-ok
returns-clause-ok c =
    let none = digits_none c.loop-rest.rest.now (eqb-true _ 0 (sym c.loop-rest-test.ensures)) in
    sym (append-nil _) ∙ ap (λ xs. c.loop-rest.text.added ++ xs) (sym none) ∙ c.loop-rest.invariant.0

-- The digits so far are those of the value, and those behind it are still to be read.
use Rattle.std.proofs.Common.{◌≡◌, ◌<◌, ◌+◌, ◌*◌, ◌^◌, ◌≢◌, length, get_or, drop, sym, ◌∙◌, arith}
use Rattle.std.proofs.lemmas.Bool.{eqb-true, eqb-false}
use Rattle.std.proofs.lemmas.List.{at_drop_more, at_drop_all}
use Rattle.ghes_script.proofs.NumberLemmas.{numeral_after, numeral-some, numeral-none, numeral_after-end, numeral_after-other, numeral_after-large, numeral_after-digit}
use Rattle.ghes_script.proofs.number.numeral.Goals as goal

pub returns-then-is_empty : goal.returns-then-is_empty
returns-then-is_empty c =
    let digits = c.args.digits.now in
    sym (numeral-none c.args.base digits (eqb-true (length digits) 0 (sym c.is_empty.ensures ∙ c.if-is_empty.true)))

pub returns-then-digit-base : goal.returns-then-digit-base
returns-then-digit-base c =
    let digits = c.args.digits.now in
    let at = c.loop-byte.byte-index in
    sym (
    numeral-some c.args.base digits (omega arith)
    ∙ sym c.loop-byte.invariant.1
    ∙ at_drop_more (numeral_after c.args.base c.loop-byte.value) digits at 0 c.loop-byte-test.true
    ∙ numeral_after-other c.args.base c.loop-byte.value (get_or digits at 0) c.digit_value-digit.result (drop (at + 1) digits) c.digit_value-digit.ensures c.if-digit-base.true
    )

pub returns-in_err-value : goal.returns-in_err-value
returns-in_err-value c =
    let digits = c.args.digits.now in
    let at = c.loop-byte.byte-index in
    let large : (c.loop-byte.value * c.args.base + c.digit_value-digit.result < 2 ^ 64) → ⊥ = c.in_err-value.ensures in
    c.from_residual.ensures
    ∙ sym (
    numeral-some c.args.base digits (omega arith)
    ∙ sym c.loop-byte.invariant.1
    ∙ at_drop_more (numeral_after c.args.base c.loop-byte.value) digits at 0 c.loop-byte-test.true
    ∙ numeral_after-large c.args.base c.loop-byte.value (get_or digits at 0) c.digit_value-digit.result (drop (at + 1) digits) c.digit_value-digit.ensures c.requires large
    )

pub loop-byte-preserved : goal.loop-byte-preserved
loop-byte-preserved c =
    let digits = c.args.digits.now in
    let at = c.loop-byte.byte-index in
    let sum : (c.loop-byte.value * c.args.base + c.digit_value-digit.result < 2 ^ 64) × (c.in_ok-value.value ≡ c.loop-byte.value * c.args.base + c.digit_value-digit.result) = c.in_ok-value.ensures in (
      omega arith,
      numeral_after-digit c.args.base c.loop-byte.value (get_or digits at 0) c.digit_value-digit.result c.in_ok-value.value (drop (at + 1) digits) c.digit_value-digit.ensures c.if-digit-base.false sum.1
          ∙ sym (at_drop_more (numeral_after c.args.base c.loop-byte.value) digits at 0 c.loop-byte-test.true)
          ∙ c.loop-byte.invariant.1,
    )

pub returns : goal.returns
returns c =
    let digits = c.args.digits.now in
    let some : length digits ≢ 0 = eqb-false (length digits) 0 (sym c.is_empty.ensures ∙ c.if-is_empty.false) in
    sym (
    numeral-some c.args.base digits (omega arith)
    ∙ sym c.loop-byte.invariant.1
    ∙ at_drop_all (numeral_after c.args.base c.loop-byte.value) digits c.loop-byte.byte-index (omega arith)
    ∙ numeral_after-end c.args.base c.loop-byte.value c.loop-byte.invariant.0
    )

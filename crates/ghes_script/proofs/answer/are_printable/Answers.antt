-- A byte more that is looked at.
use Rattle.std.proofs.Common.{◌≡◌, ◌+◌, Bool, true, false, ◌&&◌, get_or, drop, refl, sym, ap, ◌∙◌, arith}
use Rattle.std.specs.List.{list_all}
use Rattle.std.proofs.Math.Bool.{and-true}
use Rattle.std.proofs.lemmas.List.{at_drop_more, at_drop_all}
use Rattle.ghes_script.specs.Answer.{is_printable}
use Rattle.ghes_script.proofs.answer.are_printable.Goals as goal

regrouped : (a b c : Bool) → ((a && b) && c) ≡ (a && (b && c))
regrouped true b c = refl
regrouped false b c = refl

pub loop-byte-preserved : goal.loop-byte-preserved
loop-byte-preserved c =
    let text = c.args.text.now in
    let at = c.loop-byte.byte-index in
    ap (λ b. b && list_all is_printable (drop (at + 1) text)) (c.both-good.ensures ∙ ap (λ b. c.loop-byte.good && b) c.is_printable.ensures)
    ∙ regrouped c.loop-byte.good (is_printable (get_or text at 0)) (list_all is_printable (drop (at + 1) text))
    ∙ sym (at_drop_more (λ xs. c.loop-byte.good && list_all is_printable xs) text at 0 c.loop-byte-test.true)
    ∙ c.loop-byte.invariant

pub returns : goal.returns
returns c =
    sym (and-true c.loop-byte.good)
    ∙ sym (at_drop_all (λ xs. c.loop-byte.good && list_all is_printable xs) c.args.text.now c.loop-byte.byte-index (omega arith))
    ∙ c.loop-byte.invariant

-- The spaces in front are passed over, and what stands before the next one is the first word.
use Rattle.std.proofs.Common.{◌≢◌, length, sym, ap, ◌∙◌, arith}
use Rattle.std.proofs.lemmas.Bool.{eqb-true, eqb-false}
use Rattle.std.proofs.lemmas.List.{nil_from_length}
use Rattle.ghes_script.specs.Words.{words_of}
use Rattle.ghes_script.proofs.WordLemmas.{words_of-none, words_of-front}
use Rattle.ghes_script.proofs.words.next_word.Goals as goal

pub returns-then-is_empty : goal.returns-then-is_empty
returns-then-is_empty c =
    let text = c.without_spaces-text.result.now in
    sym c.without_spaces-text.ensures.words
    ∙ ap words_of (nil_from_length text (eqb-true (length text) 0 (sym c.is_empty.ensures ∙ c.if-is_empty.true)))
    ∙ words_of-none

pub returns : goal.returns
returns c =
    let text = c.without_spaces-text.result.now in
    let some : length text ≢ 0 = eqb-false (length text) 0 (sym c.is_empty.ensures ∙ c.if-is_empty.false) in
    sym c.without_spaces-text.ensures.words
    ∙ words_of-front text c.cut_at.result.0.now c.cut_at.result.1.now c.cut_at.ensures (omega arith) c.without_spaces-text.ensures.first

-- The line raises the block that was decoded, at the source that was found.
use Rattle.std.proofs.Common.{◌≢◌, codes, length, Some, sym, ◌∙◌, arith}
use Rattle.std.proofs.lemmas.Bool.{eqb-false}
use Rattle.std.proofs.lemmas.Bool.Decides.{Decides-eqb}
use Rattle.std.proofs.lemmas.Slice.Eq.{strip_prefix_is}
use Rattle.ghes_script.proofs.RaisedLemmas.{raises}
use Rattle.ghes_script.proofs.answer.raised.Goals as goal

pub returns-in-Ok : goal.returns-in-Ok
returns-in-Ok c = λ sofar.
    let text = c.args.text.now in
    let hex = c.cut_at.result.1.now in
    let prefix = strip_prefix_is Decides-eqb text (codes "raise ") (Some c.in-Some.behind) c.in-Some.ensures.cases in
    let some : length hex ≢ 0 = eqb-false (length hex) 0 (sym c.is_empty.ensures ∙ c.if-is_empty.false) in
    raises c.args.setup.now text c.in-Some.behind.now c.cut_at.result.0.now hex c.in-Ok.block c.in-Some-numeral.id c.in-Some-found.found c.requires prefix c.cut_at.ensures (omega arith) (sym c.in-Some-numeral.ensures)
    (sym c.in-Some-found.ensures) (sym c.in_ok-block.ensures ∙ c.in-Ok.is) sofar

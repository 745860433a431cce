-- The pieces of the line, joined from the other side.
use Rattle.std.proofs.Common.{◌++◌, ap, ◌∙◌}
use Rattle.std.specs.Prelude.{codes}
use Rattle.std.specs.Fmt.{decimal}
use Rattle.std.proofs.lemmas.Result.{on_ok_weaker}
use Rattle.cper_block.specs.Text.{malformed_text}
use Rattle.cper_text.specs.Report.{drop_line}
use Rattle.cper_text.proofs.Joining.{four_pieces}
use Rattle.cper_text.proofs.report.drop_line.Goals as goal

pub returns-clause-ok : goal.returns-clause-ok
unfolding drop_line
returns-clause-ok c =
    let old = c.args.text.now.added in
    let head = codes "dropped source " in
    let id = decimal c.args.id in
    let block = codes " block " in
    let seq = decimal c.args.seq in
    let place = ((head ++ id) ++ block) ++ seq in
    let colon = codes ": " in
    let words = malformed_text c.args.reason in
    let end = codes "\n" in
    on_ok_weaker c.reason_end.result
    (λ last.
    last
    ∙ ap (λ xs. (xs ++ words) ++ end) (c.in_ok-put.ensures.ok ∙ ap (λ xs. xs ++ colon) (c.in_ok-source_and_block.ensures.ok ∙ four_pieces old head id block seq))
    ∙ four_pieces old place colon words end)
    c.reason_end.ensures.ok

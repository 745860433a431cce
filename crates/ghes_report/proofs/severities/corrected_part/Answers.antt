-- The pieces of the line, joined from the other side.
use Rattle.std.proofs.Common.{◌++◌, append_assoc, ap, ◌∙◌}
use Rattle.std.specs.Prelude.{codes}
use Rattle.std.specs.Fmt.{decimal}
use Rattle.std.proofs.lemmas.Result.{on_ok_weaker}
use Rattle.ghes_report.specs.Severities.{corrected_part}
use Rattle.cper_text.proofs.Joining.{four_pieces}
use Rattle.ghes_report.proofs.severities.corrected_part.Goals as goal

pub returns-clause-ok : goal.returns-clause-ok
unfolding corrected_part
returns-clause-ok c =
    let old = c.args.text.now.added in
    let head = codes ", corrected " in
    let first = decimal c.args.corrected in
    let words = codes ", none " in
    let second = decimal c.args.none in
    let end = codes "\n" in
    on_ok_weaker c.put.result
    (λ last.
    last
    ∙ ap (λ xs. xs ++ end)
    (c.in_ok-counted-2.ensures.ok ∙ ap (λ xs. (xs ++ words) ++ second) c.in_ok-counted.ensures.ok ∙ four_pieces old head first words second)
    ∙ append_assoc old (((head ++ first) ++ words) ++ second) end)
    c.put.ensures.ok

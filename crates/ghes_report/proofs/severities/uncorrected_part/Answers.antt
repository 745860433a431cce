-- The pieces of the line, joined from the other side.
use Rattle.std.proofs.Common.{◌++◌, ap, ◌∙◌}
use Rattle.std.specs.Prelude.{codes}
use Rattle.std.specs.Fmt.{decimal}
use Rattle.std.proofs.lemmas.Result.{on_ok_weaker}
use Rattle.ghes_report.specs.Severities.{uncorrected_part}
use Rattle.cper_text.proofs.Joining.{four_pieces}
use Rattle.ghes_report.proofs.severities.uncorrected_part.Goals as goal

pub returns-clause-ok : goal.returns-clause-ok
unfolding uncorrected_part
returns-clause-ok c =
    let old = c.args.text.now.added in
    let head = codes "severities: recoverable " in
    let first = decimal c.args.recoverable in
    let words = codes ", fatal " in
    let second = decimal c.args.fatal in
    on_ok_weaker c.counted-2.result
    (λ last. last ∙ ap (λ xs. (xs ++ words) ++ second) c.in_ok-counted.ensures.ok ∙ four_pieces old head first words second)
    c.counted-2.ensures.ok

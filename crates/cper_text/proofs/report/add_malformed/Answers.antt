-- The line of the reason, and that of the bytes.
use Rattle.std.proofs.Common.{◌++◌, ap, ◌∙◌}
use Rattle.std.specs.Prelude.{codes}
use Rattle.std.proofs.lemmas.Result.{on_ok_weaker}
use Rattle.cper_block.specs.Text.{malformed_text}
use Rattle.cper_text.specs.Bytes.{bytes_line}
use Rattle.cper_text.specs.Report.{malformed_lines, reason_line}
use Rattle.cper_text.proofs.Joining.{four_pieces}
use Rattle.cper_text.proofs.report.add_malformed.Goals as goal

pub returns-clause-ok : goal.returns-clause-ok
unfolding malformed_lines reason_line
returns-clause-ok c =
    let old = c.args.text.now.added in
    let head = codes "  malformed " in
    let words = malformed_text c.args.reason in
    let end = codes "\n" in
    let line = bytes_line (codes "  data ") c.args.bytes.now in
    on_ok_weaker c.bytes_line.result
    (λ last.
    last ∙ ap (λ xs. xs ++ line) (c.in_ok-reason_end.ensures.ok ∙ ap (λ xs. (xs ++ words) ++ end) c.in_ok-put.ensures.ok)
    ∙ four_pieces old head words end line)
    c.bytes_line.ensures.ok

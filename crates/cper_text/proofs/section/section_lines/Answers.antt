-- The lines of a whole section are those of the rows of its table.
use Rattle.std.proofs.Common.{◌++◌, ap, ◌∙◌}
use Rattle.std.proofs.lemmas.Result.{on_ok_weaker}
use Rattle.cper_sections.specs.Section.{view}
use Rattle.cper_sections.specs.declared.kind.Kind.TheVariants as kinds
use Rattle.cper_text.proofs.WholeLemmas.{whole_lines}
use Rattle.cper_text.proofs.section.section_lines.Goals as goal

pub returns-in-Memory-clause-ok : goal.returns-in-Memory-clause-ok
returns-in-Memory-clause-ok c =
    let same = whole_lines kinds.Memory _ _ _ _ c.rows.ensures.value c.bytes.ensures.value (ap view c.in-Memory.is) in
    on_ok_weaker c.field_lines.result (λ is. is ∙ ap (λ xs. c.args.text.now.added ++ xs) same) c.field_lines.ensures.ok

pub returns-in-Processor-clause-ok : goal.returns-in-Processor-clause-ok
returns-in-Processor-clause-ok c =
    let same = whole_lines kinds.Processor _ _ _ _ c.rows-in-Processor.ensures.value c.bytes-in-Processor.ensures.value (ap view c.in-Processor.is) in
    on_ok_weaker c.field_lines-in-Processor.result (λ is. is ∙ ap (λ xs. c.args.text.now.added ++ xs) same) c.field_lines-in-Processor.ensures.ok

pub returns-in-Pcie-clause-ok : goal.returns-in-Pcie-clause-ok
returns-in-Pcie-clause-ok c =
    let same = whole_lines kinds.Pcie _ _ _ _ c.rows-in-Pcie.ensures.value c.bytes-in-Pcie.ensures.value (ap view c.in-Pcie.is) in
    on_ok_weaker c.field_lines-in-Pcie.result (λ is. is ∙ ap (λ xs. c.args.text.now.added ++ xs) same) c.field_lines-in-Pcie.ensures.ok

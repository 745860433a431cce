-- The line of a field that is not given is empty.
use Rattle.std.proofs.Common.{◌++◌, append-nil, sym, ap, ◌∙◌}
use Rattle.cper_sections.specs.Row.{field_of}
use Rattle.cper_text.proofs.FieldLemmas.{no_line}
use Rattle.cper_text.proofs.field.field_line.Goals as goal

pub returns-then-not-is_given-clause-ok : goal.returns-then-not-is_given-clause-ok
returns-then-not-is_given-clause-ok c =
    let none = no_line c.args.row.now.form (field_of c.args.row.now) c.args.bytes.now (sym c.is_given.ensures ∙ c.if-not-is_given.true) in
    sym (append-nil _) ∙ ap (λ xs. c.args.text.now.added ++ xs) (sym none)

-- The line of one more row, and of those behind it.
use Rattle.std.proofs.Common.{◌++◌, List, append_assoc, append-nil, ap, sym, ◌∙◌, map}
use Rattle.std.proofs.lemmas.List.{nil_from_length}
use Rattle.cper_sections.specs.declared.row.Row.{Row}
use Rattle.std.specs.List.{flat_map}
use Rattle.cper_sections.specs.Row.{field_of}
use Rattle.cper_text.specs.Section.{field_line}
use Rattle.cper_text.proofs.FieldLemmas.{first_and_rest}
use Rattle.cper_text.proofs.field.field_lines.Goals as goal

pub loop-row-preserved : goal.loop-row-preserved
loop-row-preserved c =
    let line = field_line c.args.bytes.now in
    let before = c.loop-row.text.added in
    let row = c.in-Some.row.now in
    let later = flat_map line (map field_of c.in-Some.behind.now) in (
      ap (λ xs. xs ++ later) c.in_ok-field_line.ensures.ok ∙ append_assoc before (line (field_of row)) later
          ∙ ap (λ rows. before ++ flat_map line (map field_of rows)) (sym c.in-Some.ensures.cases.0) ∙ c.loop-row.invariant.0,
      c.in_ok-field_line.ensures.front ∙ c.loop-row.invariant.1,
      (first_and_rest c.loop-row.rest.now row c.in-Some.behind.now c.in-Some.ensures.cases.0 c.loop-row.invariant.2).1,
    )

pub returns-clause-ok : goal.returns-clause-ok
returns-clause-ok c =
    let lines = λ (rows : List Row). flat_map (field_line c.args.bytes.now) (map field_of rows) in
    let none = ap lines (nil_from_length c.loop-row.rest.now c.in_default.ensures.cases) in
    sym (append-nil _) ∙ ap (λ xs. c.loop-row.text.added ++ xs) (sym none) ∙ c.loop-row.invariant.0

-- The lines of a whole section, by the fields of its kind.
use Rattle.std.proofs.Common.{◌≡◌, ℕ, List, sym, ap, ◌∙◌}
use Rattle.std.specs.List.{flat_map}
use Rattle.cper_sections.specs.declared.kind.Kind.{Kind}
use Rattle.cper_sections.specs.Field.{Field}
use Rattle.cper_sections.specs.Section.{Reading, section_fields}
use Rattle.cper_sections.specs.Section.Reading.{Whole}
use Rattle.cper_text.specs.Section.{field_line, fields_text, section_lines}

pub whole_lines : (kind : Kind) (bytes given : List ℕ) (fields : List Field) (reading : Reading) → fields ≡ section_fields kind → given ≡ bytes → reading ≡ Whole kind bytes → flat_map (field_line given) fields ≡ section_lines reading
unfolding section_lines fields_text
whole_lines kind bytes given fields reading is_table is_bytes is_whole =
    ap (λ rows. flat_map (field_line given) rows) is_table ∙ ap (λ xs. flat_map (field_line xs) (section_fields kind)) is_bytes
    ∙ ap section_lines (sym is_whole)

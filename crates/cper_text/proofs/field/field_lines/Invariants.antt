use Rattle.std.proofs.Common.{◌≡◌, ◌++◌, length, map, true}
use Rattle.std.specs.List.{flat_map, list_all}
use Rattle.cper_sections.specs.Field.{is_field}
use Rattle.cper_sections.specs.Row.{field_of}
use Rattle.cper_text.specs.Section.{field_line}
use Rattle.cper_text.proofs.field.field_lines.Given as goal

abbrev pub invariant-loop-row : goal.invariant-loop-row
invariant-loop-row l =
    (l.text.added ++ flat_map (field_line l.bytes) (map field_of l.rest) ≡ l.fn.text.added ++ flat_map (field_line l.bytes) (map field_of l.rows))
    × (l.text.front ≡ l.fn.text.front) × (list_all is_field (map field_of l.rest) ≡ true)

abbrev pub decreases-loop-row : goal.decreases-loop-row
decreases-loop-row l = length l.rest

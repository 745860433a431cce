-- A row of a table in the code, as a field.
use Rattle.cper_sections.specs.declared.row.Row.{Row}
use Rattle.cper_sections.specs.Field.{Field}

-- the field that a row names (own choice)
abbrev pub field_of : Row → Field
field_of row = record { name = row.name.now; bit = row.bit; at = row.at; width = row.width; form = row.form }

-- The lines of a section, by which section it is (own choice).
use Rattle.std.specs.Prelude.{ℕ, List, [], ◌++◌, codes, Option, Some, None}
use Rattle.std.specs.Int.{bytes_high_first}
use Rattle.std.specs.List.{flat_map}
use Rattle.hex.specs.Hex.{encode_lower}
use Rattle.uuid.specs.Text.{hyphenated_text, lower}
use Rattle.cper_sections.specs.declared.kind.Kind.{Kind}
use Rattle.cper_sections.specs.declared.form.Form.{Form}
use Rattle.cper_sections.specs.declared.form.Form.TheVariants.{Number, Bytes, Text}
use Rattle.cper_sections.specs.Field.{Field, number_of, bytes_of, text_of}
use Rattle.cper_sections.specs.Section.{Reading, section_fields, kind_text}
use Rattle.cper_sections.specs.Section.Reading.{Whole, Short, Other}
use Rattle.cper_text.specs.Bytes.{bytes_line, text_line}

-- what stands before the value in the line of a field: its name, indented (own choice)
abbrev pub field_head : List ℕ → List ℕ
field_head name = codes "    " ++ name ++ codes " "

-- the line of a field that is a number of so many bytes, two digits each, where it is given (own choice)
unfoldable pub number_line : List ℕ → ℕ → Option ℕ → List ℕ
number_line name width None = []
number_line name width (Some number) =
    field_head name ++ codes "0x" ++ encode_lower (bytes_high_first width number) ++ codes "\n"

-- the line of a field that is a list of bytes, where it is given (own choice)
unfoldable pub list_line : List ℕ → Option (List ℕ) → List ℕ
list_line name None = []
list_line name (Some bytes) = bytes_line (field_head name) bytes

-- the line of a field that is a text, where it is given (own choice)
unfoldable pub quoted_line : List ℕ → Option (List ℕ) → List ℕ
quoted_line name None = []
quoted_line name (Some text) = text_line (field_head name) text

-- the line of a field of these bytes, by how the field is read (own choice)
abbrev pub line_by : Form → Field → List ℕ → List ℕ
line_by Number field bytes = number_line field.name field.width (number_of field bytes)
line_by Bytes field bytes = list_line field.name (bytes_of field bytes)
line_by Text field bytes = quoted_line field.name (text_of field bytes)

abbrev pub field_line : List ℕ → Field → List ℕ
field_line bytes field = line_by field.form field bytes

-- the lines of the fields of a section of a kind, in the order of its table (own choice)
unfoldable pub fields_text : Kind → List ℕ → List ℕ
fields_text kind bytes = flat_map (field_line bytes) (section_fields kind)

-- the lines of a section: the fields of a whole one of a kind, and the bytes of any other (own choice)
unfoldable pub section_lines : Reading → List ℕ
section_lines (Whole kind bytes) = fields_text kind bytes
section_lines (Short kind bytes) = bytes_line (codes "    data ") bytes
section_lines (Other bytes) = bytes_line (codes "    data ") bytes

-- the words for which section it is: its kind and whether it is short, or the GUID of its type (own choice)
unfoldable pub type_text : List ℕ → Reading → List ℕ
type_text guid (Whole kind bytes) = kind_text kind
type_text guid (Short kind bytes) = kind_text kind ++ codes " short"
type_text guid (Other bytes) = codes "section " ++ hyphenated_text lower guid

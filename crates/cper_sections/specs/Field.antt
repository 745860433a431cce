-- A field of a section: where it stands, when it is given, and what it says (UEFI 2.10, appendix N.2).
use Rattle.std.specs.Prelude.{ℕ, ◌+◌, ◌==◌, ◌&&◌, nat_lt, nat_le, if◌then◌else◌, Bool, List, length, take, drop, Option, Some, None}
use Rattle.std.specs.Int.{bit_at}
use Rattle.std.specs.List.{before_first}
use Rattle.std.specs.Option.{option_map}
use Rattle.apei_base.specs.Number.{number_at}
use Rattle.cper_sections.specs.declared.form.Form.{Form}
use Rattle.cper_sections.specs.declared.form.Form.TheVariants.{Number, Bytes, Text}
use Rattle.cper_sections.specs.Form.{is_read}

-- A field of a section: its name, its bit of the validation number, its offset and its width in bytes, and how it is
-- read (UEFI 2.10, appendix N.2; the names: own choice).
pub record Field : Type 0 where
  pub name : List ℕ
  pub bit : ℕ
  pub at : ℕ
  pub width : ℕ
  pub form : Form

-- the offset of the first byte behind a field (UEFI 2.10, appendix N.2)
abbrev pub end_of : Field → ℕ
end_of field = field.at + field.width

-- the rows of a section's table of fields: name, bit, offset and width (UEFI 2.10, appendix N.2)
abbrev pub number_field : List ℕ → ℕ → ℕ → ℕ → Field
number_field name bit at width = record { name = name; bit = bit; at = at; width = width; form = Number }

abbrev pub bytes_field : List ℕ → ℕ → ℕ → ℕ → Field
bytes_field name bit at width = record { name = name; bit = bit; at = at; width = width; form = Bytes }

abbrev pub text_field : List ℕ → ℕ → ℕ → ℕ → Field
text_field name bit at width = record { name = name; bit = bit; at = at; width = width; form = Text }

-- a bit is set in the validation number, which is the first 8 bytes of a section (UEFI 2.10, appendix N.2.4 to N.2.7)
abbrev pub is_valid : ℕ → List ℕ → Bool
is_valid bit bytes = bit_at (number_at 0 8 bytes) bit == 1

-- a field is given where its bit is set and all its bytes are at hand
-- (UEFI 2.10, appendix N.2.4 to N.2.7; a field that the end cuts off is not given: own choice)
abbrev pub is_given : ℕ → ℕ → ℕ → List ℕ → Bool
is_given bit at width bytes = is_valid bit bytes && nat_le (at + width) (length bytes)

-- the number that a field at this place says, where it is given (UEFI 2.10, appendix N.2)
abbrev pub number_in : ℕ → ℕ → ℕ → List ℕ → Option ℕ
number_in bit at width bytes = if is_given bit at width bytes then Some (number_at at width bytes) else None

-- the bytes of a field at this place, where it is given (UEFI 2.10, appendix N.2)
abbrev pub bytes_in : ℕ → ℕ → ℕ → List ℕ → Option (List ℕ)
bytes_in bit at width bytes = if is_given bit at width bytes then Some (take width (drop at bytes)) else None

-- the text of a field at this place, where it is given: its bytes before the first 0, or all (UEFI 2.10, appendix N.2.4.1)
abbrev pub text_in : ℕ → ℕ → ℕ → List ℕ → Option (List ℕ)
text_in bit at width bytes = option_map (before_first (λ byte. byte == 0)) (bytes_in bit at width bytes)

-- what a field of a section says, by its row: as a number, as bytes, as a text (UEFI 2.10, appendix N.2)
abbrev pub number_of : Field → List ℕ → Option ℕ
number_of field bytes = number_in field.bit field.at field.width bytes

abbrev pub bytes_of : Field → List ℕ → Option (List ℕ)
bytes_of field bytes = bytes_in field.bit field.at field.width bytes

abbrev pub text_of : Field → List ℕ → Option (List ℕ)
text_of field bytes = text_in field.bit field.at field.width bytes

-- a field can be read: its bit is one of the 64 of the validation number, it lies in the longest section, and it is as wide as how it is
-- read asks for (UEFI 2.10, appendix N.2)
abbrev pub is_field : Field → Bool
is_field field = nat_lt field.bit 64 && (nat_le (end_of field) 208 && is_read field.form field.width)

-- How a field of a section is read (own choice).
use Rattle.std.specs.Prelude.{ℕ, ◌&&◌, nat_le, Bool, true}
use Rattle.cper_sections.specs.declared.form.Form.{Form}
use Rattle.cper_sections.specs.declared.form.Form.TheVariants.{Number, Bytes, Text}

-- a field of so many bytes can be read so: a number has 1 to 8 (own choice)
abbrev pub is_read : Form → ℕ → Bool
is_read Number width = nat_le 1 width && nat_le width 8
is_read Bytes width = true
is_read Text width = true

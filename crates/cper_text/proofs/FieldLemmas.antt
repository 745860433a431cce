-- The line of a field that is not given, and fields that can be read.
use Rattle.std.proofs.Common.{◌≡◌, ℕ, Bool, List, [], ◌∷◌, ◌&&◌, take, drop, map, cond, eqb, true, false, Some, None, refl, sym, ap, ◌∙◌}
use Rattle.std.specs.List.{before_first, list_all}
use Rattle.std.specs.Option.{option_map}
use Rattle.apei_base.specs.Number.{number_at}
use Rattle.cper_sections.specs.declared.form.Form.{Form}
use Rattle.cper_sections.specs.declared.form.Form.TheVariants.{Number, Bytes, Text}
use Rattle.cper_sections.specs.declared.row.Row.{Row}
use Rattle.cper_sections.specs.Field.{Field, is_field, is_given}
use Rattle.cper_sections.specs.Row.{field_of}
use Rattle.cper_text.specs.Section.{number_line, list_line, quoted_line, line_by}

-- it is empty, however the field is read
pub no_line : (form : Form) (field : Field) (bytes : List ℕ) → is_given field.bit field.at field.width bytes ≡ false → line_by form field bytes ≡ []
unfolding number_line list_line quoted_line
no_line Number field bytes not = ap (λ b. number_line field.name field.width (cond b (Some (number_at field.at field.width bytes)) None)) not
no_line Bytes field bytes not = ap (λ b. list_line field.name (cond b (Some (take field.width (drop field.at bytes))) None)) not
no_line Text field bytes not = ap (λ b. quoted_line field.name (option_map (before_first (λ byte. eqb byte 0)) (cond b (Some (take field.width (drop field.at bytes))) None))) not

both : (a b : Bool) → (a && b) ≡ true → (a ≡ true) × (b ≡ true)
both true b e = (refl, e)
both false b e = absurd (let no : false ≡ true = e in cc)

-- where all fields of rows can be read, the first can, and those behind it
pub first_and_rest : (rows : List Row) (row : Row) (behind : List Row) → rows ≡ row ∷ behind → list_all is_field (map field_of rows) ≡ true
    → (is_field (field_of row) ≡ true) × (list_all is_field (map field_of behind) ≡ true)
first_and_rest rows row behind is all =
    both (is_field (field_of row)) (list_all is_field (map field_of behind)) (ap (λ xs. list_all is_field (map field_of xs)) (sym is) ∙ all)

-- What is known of a field that can be read.
use Rattle.std.proofs.Common.{◌≡◌, ◌≤◌, ◌<◌, ◌+◌, ℕ, Bool, true, false, leb, ltb, ◌&&◌, refl}
use Rattle.std.proofs.lemmas.Bool.{leb-true, ltb-true, false≢true}
use Rattle.cper_sections.specs.declared.form.Form.{Form}
use Rattle.cper_sections.specs.declared.form.Form.TheVariants.{Number, Bytes, Text}
use Rattle.cper_sections.specs.Form.{is_read}

first_true : (a b : Bool) → (a && b) ≡ true → a ≡ true
first_true true b both = refl
first_true false b both = absurd (false≢true both)

second_true : (a b : Bool) → (a && b) ≡ true → b ≡ true
second_true true b both = both
second_true false b both = absurd (false≢true both)

-- the test of a field, by its parts
abbrev pub passes : ℕ → ℕ → ℕ → Form → Bool
passes bit at width form = ltb bit 64 && (leb (at + width) 208 && is_read form width)

pub bit_in : (bit at width : ℕ) (form : Form) → passes bit at width form ≡ true → bit < 64
bit_in bit at width form is = ltb-true bit 64 (first_true (ltb bit 64) (leb (at + width) 208 && is_read form width) is)

pub end_in : (bit at width : ℕ) (form : Form) → passes bit at width form ≡ true → at + width ≤ 208
end_in bit at width form is = leb-true (at + width) 208 (first_true (leb (at + width) 208) (is_read form width) (second_true (ltb bit 64) (leb (at + width) 208 && is_read form width) is))

-- how wide a number is
reads : (bit at width : ℕ) (form : Form) → passes bit at width form ≡ true → is_read form width ≡ true
reads bit at width form is = second_true (leb (at + width) 208) (is_read form width) (second_true (ltb bit 64) (leb (at + width) 208 && is_read form width) is)

least : (form : Form) (width : ℕ) → form ≡ Number → is_read form width ≡ true → 1 ≤ width
least Number width number read = leb-true 1 width (first_true (leb 1 width) (leb width 8) read)
least Bytes width number read = cc
least Text width number read = cc

most : (form : Form) (width : ℕ) → form ≡ Number → is_read form width ≡ true → width ≤ 8
most Number width number read = leb-true width 8 (second_true (leb 1 width) (leb width 8) read)
most Bytes width number read = cc
most Text width number read = cc

pub least_width : (bit at width : ℕ) (form : Form) → form ≡ Number → passes bit at width form ≡ true → 1 ≤ width
least_width bit at width form number is = least form width number (reads bit at width form is)

pub most_width : (bit at width : ℕ) (form : Form) → form ≡ Number → passes bit at width form ≡ true → width ≤ 8
most_width bit at width form number is = most form width number (reads bit at width form is)

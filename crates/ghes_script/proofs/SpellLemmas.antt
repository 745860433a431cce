-- Words that are spelled are read as what they spell.
use Rattle.std.proofs.Common.{◌≡◌, ◌≢◌, ◌<◌, ◌≤◌, ◌+◌, ◌^◌, ℕ, zero, suc, Bool, true, false, cond, ◌&&◌, eqb, ltb, leb, List, [], ◌∷◌, ◌++◌, length, drop, Some, None, Result, Ok, Err, inl, refl, sym, ap, subst, ◌∙◌, arith, zero-add, length-append}
use Rattle.std.specs.Prelude.{slice_get}
use Rattle.std.specs.Char.{digit_value, is_digit}
use Rattle.std.specs.Fmt.{decimal}
use Rattle.std.specs.List.{AllByRecursion, list_all}
use Rattle.std.specs.Str.Parse.{AllDigits, digits_value}
use Rattle.std.proofs.lemmas.Bool.{lt-ltb, le-leb, ne_eqb, eq-eqb}
use Rattle.std.proofs.lemmas.Fmt.{decimal_is_IsNumeral, length-decimal-le}
use Rattle.std.proofs.lemmas.Str.Parse.{digit_from_value}
use Rattle.ghes_script.specs.Answer.{is_printable}
use Rattle.ghes_script.specs.Number.{numeral, is_marked, number_of, or_kind, ◌>>=◌, number, number_within, number_below}
use Rattle.ghes_script.specs.Setup.{Setup, found_from, found_of, named, source_of, acked_source_of}
use Rattle.ghes_script.specs.Sound.{IsSource, IsAcked}
use Rattle.ghes_script.specs.Spelling.{AreApart, AreSmall}
use Rattle.ghes_script.specs.Words.{words_of}
use Rattle.ghes_script.specs.declared.error.ScriptKind.{ScriptKind}
use Rattle.ghes_script.specs.declared.error.ScriptKind.TheVariants.{Number, Range, Source}
use Rattle.ghes_script.specs.declared.setup.Found.{Found}
use Rattle.ghes_script.specs.declared.setup.SourceName.{SourceName}
use Rattle.ghes_script.proofs.WordLemmas.{words_of-none, words_of-cut}

-- bytes that may stand in a word
abbrev pub Plain : List ℕ → Type 0
Plain word = AllByRecursion (λ byte. (33 ≤ byte) × (byte ≤ 126)) word

-- some such bytes
pub record IsWord (word : List ℕ) : Type 0 where
  pub some : 0 < length word
  pub plain : Plain word

-- words, each with a space behind it
abbrev pub joined : List (List ℕ) → List ℕ
joined [] = []
joined (word ∷ words) = word ++ 32 ∷ joined words

-- how many bytes these are
abbrev pub size : List (List ℕ) → ℕ
size [] = 0
size (word ∷ words) = length word + (1 + size words)

pub length-joined : (words : List (List ℕ)) → length (joined words) ≡ size words
length-joined [] = refl
length-joined (word ∷ words) =
    let rest = length-joined words in
    omega (arith, length-append word (32 ∷ joined words))

pub no_space : (word : List ℕ) → Plain word → AllByRecursion (λ byte. byte ≢ 32) word
no_space [] plain = tt
no_space (x ∷ xs) plain = let low : 33 ≤ x = plain.0.0 in (λ e. omega (arith, e), no_space xs plain.1)

pub words_of-joined : (words : List (List ℕ)) → AllByRecursion IsWord words → words_of (joined words) ≡ words
words_of-joined [] all = words_of-none
words_of-joined (word ∷ words) all =
    words_of-cut (word ++ 32 ∷ joined words) word (joined words) (record { unmarked = no_space word all.0.plain; cut = inl refl }) all.0.some
    ∙ ap (λ ws. word ∷ ws) (words_of-joined words all.1)

pub both : (a b : Bool) → a ≡ true → b ≡ true → (a && b) ≡ true
both a b e f = ap (λ x. x && b) e ∙ f

pub printable_front : (word rest : List ℕ) → Plain word → list_all is_printable rest ≡ true → list_all is_printable (word ++ rest) ≡ true
printable_front [] rest plain more = more
printable_front (x ∷ xs) rest plain more =
    let low : 33 ≤ x = plain.0.0 in
    both (leb 32 x && leb x 126) (list_all is_printable (xs ++ rest)) (both (leb 32 x) (leb x 126) (le-leb 32 x (omega arith)) (le-leb x 126 plain.0.1)) (printable_front xs rest plain.1 more)

pub printable-joined : (words : List (List ℕ)) → AllByRecursion IsWord words → list_all is_printable (joined words) ≡ true
printable-joined [] all = refl
printable-joined (word ∷ words) all = printable_front word (32 ∷ joined words) all.0.plain (printable-joined words all.1)

-- digits can stand in a word
pub plain_digits : (digits : List ℕ) → AllDigits 10 digits → Plain digits
plain_digits [] all = tt
plain_digits (c ∷ cs) all = let range = digit_from_value c all.0 in ((omega (arith, range.0), omega (arith, range.1)), plain_digits cs all.1)

each_digit : (digits : List ℕ) → AllDigits 10 digits → list_all (λ c. is_digit c 10) digits ≡ true
each_digit [] all = refl
each_digit (c ∷ cs) all = both (ltb (digit_value c) 10) (list_all (λ c. is_digit c 10) cs) (lt-ltb (digit_value c) 10 all.0) (each_digit cs all.1)

-- digits do not begin with `0x`
pub no_mark : (digits : List ℕ) → AllDigits 10 digits → is_marked digits ≡ false
no_mark [] all = refl
no_mark (x ∷ []) all = refl
no_mark (x ∷ y ∷ zs) all =
    let range = digit_from_value y all.1.0 in
    let other : y ≢ 120 = λ e. omega (arith, range.1, e) in
    ap (λ b. leb 2 (length (x ∷ y ∷ zs)) && (eqb x 48 && b)) (ne_eqb y 120 other) ∙ none (leb 2 (length (x ∷ y ∷ zs))) (eqb x 48) where
      none : (a b : Bool) → (a && (b && false)) ≡ false
      none true true = refl
      none true false = refl
      none false b = refl

numeral_is : (n : ℕ) → n < 2 ^ 64 → numeral 10 (decimal n) ≡ Some n
unfolding numeral
numeral_is n small =
    let is = decimal_is_IsNumeral n small in
    let fits : ltb (digits_value 10 (decimal n)) (2 ^ 64) ≡ true = ap (λ m. ltb m (2 ^ 64)) is.1 ∙ lt-ltb n (2 ^ 64) small in
    let passes = both (ltb 0 (length (decimal n))) (list_all (λ c. is_digit c 10) (decimal n) && ltb (digits_value 10 (decimal n)) (2 ^ 64)) (lt-ltb 0 (length (decimal n)) is.0.0)
    (both (list_all (λ c. is_digit c 10) (decimal n)) (ltb (digits_value 10 (decimal n)) (2 ^ 64)) (each_digit (decimal n) is.0.1) fits) in
    ap (λ b. cond b (Some (digits_value 10 (decimal n))) None) passes ∙ ap Some is.1

number_of_is : (n : ℕ) → n < 2 ^ 64 → number_of (decimal n) ≡ Some n
unfolding number_of
number_of_is n small =
    let is = decimal_is_IsNumeral n small in
    ap (λ b. cond b (cond (leb (length (decimal n)) 18) (numeral 16 (drop 2 (decimal n))) None) (numeral 10 (decimal n))) (no_mark (decimal n) is.0.1) ∙ numeral_is n small

-- a short word that is read as this value
pub record Spells (A : Type 0) (read : List ℕ → Result A ScriptKind) (value : A) : Type 0 where
  pub word : List ℕ
  pub is : IsWord word
  pub short : length word ≤ 20
  pub reads : read word ≡ Ok value

pub number_word : (n : ℕ) → n < 2 ^ 64 → Spells ℕ number n
number_word n small =
    let is = decimal_is_IsNumeral n small in
    record {
      word = decimal n;
      is = record { some = is.0.0; plain = plain_digits (decimal n) is.0.1 };
      short = length-decimal-le 20 n (omega arith) (omega arith) small;
      reads = ap (or_kind Number) (number_of_is n small);
    }

pub within_word : (low high n : ℕ) → low ≤ n → n ≤ high → n < 2 ^ 64 → Spells ℕ (number_within low high) n
unfolding number_within
within_word low high n least most small =
    let here = number_word n small in
    record {
      word = here.word;
      is = here.is;
      short = here.short;
      reads = ap (λ r. r >>= λ n. cond (leb low n && leb n high) (Ok n) (Err Range)) here.reads
          ∙ ap (λ b. cond b (Ok n) (Err Range)) (both (leb low n) (leb n high) (le-leb low n least) (le-leb n high most));
    }

pub below_word : (limit n : ℕ) → n < limit → n < 2 ^ 64 → Spells ℕ (number_below limit) n
unfolding number_below
below_word limit n below small =
    let here = number_word n small in
    record {
      word = here.word;
      is = here.is;
      short = here.short;
      reads = ap (λ r. r >>= λ n. cond (ltb n limit) (Ok n) (Err Range)) here.reads ∙ ap (λ b. cond b (Ok n) (Err Range)) (lt-ltb n limit below);
    }

-- what holds of all elements holds of one of them
at_place : (P : SourceName → Type 0) (names : List SourceName) (place : ℕ) (name : SourceName) → AllByRecursion P names → slice_get names place ≡ Some name → P name
at_place P [] place name all there = absurd (let no : None ≡ Some name = there in cc)
at_place P (first ∷ names) zero name all there = let same : first ≡ name = cc in subst P same all.0
at_place P (first ∷ names) (suc place) name all there = at_place P names place name all.1 there

-- a source that is found
abbrev pub placed : ℕ → Bool → Found
placed at v2 = record { at = at; v2 = v2 }

-- a source is found by its id, where the ids differ
found_at : (at : ℕ) (names : List SourceName) (place : ℕ) (name : SourceName) → AreApart names → slice_get names place ≡ Some name → found_from at names name.id ≡ Some (placed (at + place) name.v2)
found_at at [] place name apart there = absurd (let no : None ≡ Some name = there in cc)
found_at at (first ∷ names) zero name apart there =
    let same : first ≡ name = cc in
    let P : SourceName → Type 0 = λ other. found_from at (first ∷ names) other.id ≡ Some (placed (at + 0) other.v2) in
    let Q : ℕ → Type 0 = λ n. found_from at (first ∷ names) first.id ≡ Some (placed n first.v2) in
    let plain : at ≡ at + 0 = omega arith in
    subst P same (subst Q plain (ap (λ b. cond b (Some (placed at first.v2)) (found_from (at + 1) names first.id)) (eq-eqb first.id first.id refl)))
found_at at (first ∷ names) (suc place) name apart there =
    let other : name.id ≢ first.id = at_place (λ other. other.id ≢ first.id) names place name apart.0 there in
    let rest = found_at (at + 1) names place name apart.1 there in
    let R : ℕ → Type 0 = λ n. found_from (at + 1) names name.id ≡ Some (placed n name.v2) in
    let same : at + 1 + place ≡ at + suc place = omega arith in
    ap (λ b. cond b (Some (placed at first.v2)) (found_from (at + 1) names name.id)) (ne_eqb first.id name.id (λ e. other (sym e)))
    ∙ subst R same rest

-- a word that names a source
named_word : (setup : Setup) (place : ℕ) (name : SourceName) → AreApart setup.names → AreSmall setup.names → slice_get setup.names place ≡ Some name → Spells Found (named setup) (placed place name.v2)
unfolding named
named_word setup place name apart small there =
    let fits : name.id < 2 ^ 16 = at_place (λ other. other.id < 2 ^ 16) setup.names place name small there in
    let here = number_word name.id (omega arith) in
    let S : ℕ → Type 0 = λ n. found_of setup.names name.id ≡ Some (placed n name.v2) in
    let found = subst S (zero-add place) (found_at 0 setup.names place name apart there) in
    record {
      word = here.word;
      is = here.is;
      short = here.short;
      reads = ap (λ r. r >>= λ id. or_kind Source (found_of setup.names id)) here.reads ∙ ap (or_kind Source) found;
    }

-- a position below the length has an element
there_is : (names : List SourceName) (place : ℕ) → place < length names → (name : SourceName) × (slice_get names place ≡ Some name)
there_is [] place below = absurd (omega arith)
there_is (first ∷ names) zero below = (first, refl)
there_is (first ∷ names) (suc place) below = there_is names place (omega arith)

pub source_word : (setup : Setup) (place : ℕ) → AreApart setup.names → AreSmall setup.names → IsSource setup place → Spells ℕ (source_of setup) place
unfolding source_of
source_word setup place apart small is =
    let name = there_is setup.names place is in
    let here = named_word setup place name.0 apart small name.1 in
    record { word = here.word; is = here.is; short = here.short; reads = ap (λ r. r >>= λ found. Ok found.at) here.reads }

pub acked_word : (setup : Setup) (place : ℕ) → AreApart setup.names → AreSmall setup.names → IsAcked setup place → Spells ℕ (acked_source_of setup) place
unfolding acked_source_of
acked_word setup place apart small is =
    let here = named_word setup place is.name apart small is.there in
    record {
      word = here.word;
      is = here.is;
      short = here.short;
      reads = ap (λ r. r >>= λ found. cond found.v2 (Ok found.at) (Err Source)) here.reads ∙ ap (λ b. cond b (Ok place) (Err Source)) is.v2;
    }

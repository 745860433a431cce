-- A line that is `nmi`, one space and decimal digits.
use Rattle.std.proofs.Common.{◌≡◌, ◌<◌, ◌≤◌, ◌^◌, ℕ, Bool, true, false, cond, ◌&&◌, ltb, leb, codes, List, [], ◌∷◌, ◌++◌, length, drop, append-nil, Some, None, Ok, ◌⊎◌, inl, inr, refl, sym, ap, ◌∙◌, arith}
use Rattle.std.specs.Char.{digit_value, is_digit}
use Rattle.std.specs.List.{list_all}
use Rattle.std.specs.Str.Parse.{AllDigits, digits_value}
use Rattle.std.proofs.lemmas.Bool.{le-ltb, ltb-true, eqb-false}
use Rattle.ghes_script.specs.Answer.{is_printable, in_order, words_answer, answer_of}
use Rattle.ghes_script.specs.Asked.{nmi, asked_by, asked}
use Rattle.ghes_script.specs.Cut.{IsCutAt}
use Rattle.ghes_script.specs.Name.{command_of}
use Rattle.ghes_script.specs.Number.{numeral, number_of, or_kind, ◌>>=◌}
use Rattle.ghes_script.specs.Setup.{Setup, found_of, named, source_of}
use Rattle.ghes_script.specs.Words.{words_of}
use Rattle.ghes_script.specs.declared.answer.Answer.TheVariants.{Asks, Bad}
use Rattle.ghes_script.specs.declared.error.ScriptKind.TheVariants.{Number, Unprintable, TooLong, Source}
use Rattle.ghes_script.specs.declared.line.What.TheVariants.{Nmi}
use Rattle.ghes_script.specs.declared.setup.Found.{Found}
use Rattle.ghes_script.specs.declared.sofar.Sofar.{Sofar}
use Rattle.ghes_script.proofs.SpellLemmas.{Plain, no_space, plain_digits, no_mark, printable_front}
use Rattle.ghes_script.proofs.WordLemmas.{words_of-none, words_of-cut}

-- a test that was passed
passed : (test : Bool) (n id : ℕ) → cond test (Some n) None ≡ Some id → test ≡ true
passed true n id e = refl
passed false n id e = absurd (let no : None ≡ Some id = e in cc)

parts : (a b : Bool) → (a && b) ≡ true → (a ≡ true) × (b ≡ true)
parts true b e = (refl, e)
parts false b e = absurd (let no : false ≡ true = e in cc)

all_digits : (digits : List ℕ) → list_all (λ c. is_digit c 10) digits ≡ true → AllDigits 10 digits
all_digits [] all = tt
all_digits (c ∷ cs) all =
    let both = parts (ltb (digit_value c) 10) (list_all (λ c. is_digit c 10) cs) all in
    (ltb-true (digit_value c) 10 both.0, all_digits cs both.1)

-- digits that spell a number: there is one at least
pub numeral_digits : (word : List ℕ) (id : ℕ) → numeral 10 word ≡ Some id → (0 < length word) × AllDigits 10 word
unfolding numeral
numeral_digits word id e =
    let test = passed (ltb 0 (length word) && (list_all (λ c. is_digit c 10) word && ltb (digits_value 10 word) (2 ^ 64))) (digits_value 10 word) id e in
    let first = parts (ltb 0 (length word)) (list_all (λ c. is_digit c 10) word && ltb (digits_value 10 word) (2 ^ 64)) test in
    let second = parts (list_all (λ c. is_digit c 10) word) (ltb (digits_value 10 word) (2 ^ 64)) first.1 in
    (ltb-true 0 (length word) first.0, all_digits word second.0)

-- decimal digits are a number
pub number_is : (word : List ℕ) (id : ℕ) → AllDigits 10 word → numeral 10 word ≡ Some id → number_of word ≡ Some id
unfolding number_of
number_is word id all e = ap (λ b. cond b (cond (leb (length word) 18) (numeral 16 (drop 2 word)) None) (numeral 10 word)) (no_mark word all) ∙ e

nmi_plain : Plain (codes "nmi")
nmi_plain = ((omega arith, omega arith), ((omega arith, omega arith), ((omega arith, omega arith), tt)))

-- the words are `nmi` and the digits
words_are : (word : List ℕ) → 0 < length word → Plain word → words_of (codes "nmi " ++ word) ≡ codes "nmi" ∷ word ∷ []
words_are word some plain =
    words_of-cut (codes "nmi " ++ word) (codes "nmi") word (record { unmarked = no_space (codes "nmi") nmi_plain; cut = inl refl }) (omega arith)
    ∙ ap (λ ws. codes "nmi" ∷ ws) (words_of-cut word word [] (record { unmarked = no_space word plain; cut = inr (refl, refl) }) some ∙ ap (λ ws. word ∷ ws) words_of-none)

-- what the words ask for
asks_nmi : (setup : Setup) (sofar : Sofar) (word : List ℕ) (id : ℕ) (found : Found) → number_of word ≡ Some id → found_of setup.names id ≡ Some found → asked setup sofar (codes "nmi") (word ∷ []) ≡ Ok (Nmi found.at)
unfolding asked asked_by nmi source_of named command_of
asks_nmi setup sofar word id found is there =
    ap (λ n. ((or_kind Number n >>= λ id. or_kind Source (found_of setup.names id)) >>= λ found. Ok found.at) >>= λ source. Ok (Nmi source)) is
    ∙ ap (λ f. (or_kind Source f >>= λ found. Ok found.at) >>= λ source. Ok (Nmi source)) there

-- such a line calls for the source with this id
pub calls : (setup : Setup) (text word : List ℕ) (id : ℕ) (found : Found) → length text ≤ 132000 → text ≡ codes "nmi " ++ word
    → numeral 10 word ≡ Some id → found_of setup.names id ≡ Some found → (sofar : Sofar) → answer_of setup sofar text ≡ Asks (Nmi found.at)
unfolding answer_of
calls setup text word id found short is spells there sofar =
    let digits = numeral_digits word id spells in
    let plain = plain_digits word digits.1 in
    ap (λ b. cond b (Bad TooLong) (cond (list_all is_printable text) (words_answer setup sofar (words_of text)) (Bad Unprintable))) (le-ltb 132000 (length text) short)
    ∙ ap (λ bytes. cond (list_all is_printable bytes) (words_answer setup sofar (words_of bytes)) (Bad Unprintable)) is
    ∙ ap (λ b. cond b (words_answer setup sofar (words_of (codes "nmi " ++ word))) (Bad Unprintable)) (ap (λ xs. list_all is_printable (codes "nmi " ++ xs)) (sym (append-nil word)) ∙ printable_front word [] plain refl)
    ∙ ap (words_answer setup sofar) (words_are word digits.0 plain)
    ∙ ap (in_order sofar) (asks_nmi setup sofar word id found (number_is word id digits.1 spells) there)

-- where such a line ends
pub called_cut : (bytes behind word rest : List ℕ) → bytes ≡ codes "nmi " ++ behind → IsCutAt 10 behind word rest → IsCutAt 10 bytes (codes "nmi " ++ word) rest
called_cut bytes behind word rest is cut =
    record { unmarked = (eqb-false 110 10 refl, (eqb-false 109 10 refl, (eqb-false 105 10 refl, (eqb-false 32 10 refl, cut.unmarked)))); cut = by_cases cut.cut } where
      by_cases : ((behind ≡ word ++ 10 ∷ rest) ⊎ ((behind ≡ word) × (rest ≡ []))) → ((bytes ≡ (codes "nmi " ++ word) ++ 10 ∷ rest) ⊎ ((bytes ≡ codes "nmi " ++ word) × (rest ≡ [])))
      by_cases (inl e) = inl (is ∙ ap (λ xs. codes "nmi " ++ xs) e)
      by_cases (inr e) = inr (is ∙ ap (λ xs. codes "nmi " ++ xs) e.0, e.1)

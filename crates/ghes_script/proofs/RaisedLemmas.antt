-- A line that is `raise`, one space, decimal digits, one space and a block.
use Rattle.std.proofs.Common.{◌≡◌, ◌<◌, ◌≤◌, ℕ, true, cond, codes, List, [], ◌∷◌, ◌++◌, length, append-nil, Some, Result, Ok, Err, ◌⊎◌, inl, inr, refl, sym, ap, ◌∙◌, arith}
use Rattle.std.specs.List.{list_all}
use Rattle.std.proofs.lemmas.Bool.{le-ltb}
use Rattle.std.proofs.lemmas.List.Elements.{recursion_from_All}
use Rattle.hex.specs.Hex.{decode_of, is_hex_digit}
use Rattle.hex.specs.declared.error.FromHexError.{FromHexError}
use Rattle.hex.proofs.HexLemmas.{decode_of-ok}
use Rattle.ghes_script.specs.Answer.{is_printable, in_order, words_answer, answer_of}
use Rattle.ghes_script.specs.Asked.{or_hex, is_block, block_of, raise, asked_by, asked}
use Rattle.ghes_script.specs.Cut.{IsCutAt}
use Rattle.ghes_script.specs.Name.{setting_of, command_of}
use Rattle.ghes_script.specs.Number.{numeral, number_of, or_kind, ◌>>=◌}
use Rattle.ghes_script.specs.Setup.{Setup, found_of, named, source_of}
use Rattle.ghes_script.specs.Words.{words_of}
use Rattle.ghes_script.specs.declared.answer.Answer.TheVariants.{Asks, Bad}
use Rattle.ghes_script.specs.declared.error.ScriptKind.{ScriptKind}
use Rattle.ghes_script.specs.declared.error.ScriptKind.TheVariants.{Number, Hex, Range, Unprintable, TooLong, Source}
use Rattle.ghes_script.specs.declared.line.What.{What}
use Rattle.ghes_script.specs.declared.line.What.TheVariants.{Raise}
use Rattle.ghes_script.specs.declared.setup.Found.{Found}
use Rattle.ghes_script.specs.declared.sofar.Sofar.{Sofar}
use Rattle.ghes_script.proofs.CalledLemmas.{numeral_digits, number_is}
use Rattle.ghes_script.proofs.SpellBlocks as blocks
use Rattle.ghes_script.proofs.SpellLemmas.{Plain, no_space, plain_digits, printable_front}
use Rattle.ghes_script.proofs.WordLemmas.{words_of-none, words_of-cut}

-- a word that spells a block consists of hexadecimal digits
block_plain : (word block : List ℕ) → block_of word ≡ Ok block → Plain word
unfolding block_of
block_plain word block e = by_result (decode_of word) refl e where
  by_result : (read : Result (List ℕ) FromHexError) → decode_of word ≡ read → (or_hex read >>= λ bytes. cond (is_block bytes) (Ok bytes) (Err Range)) ≡ Ok block → Plain word
  by_result (Ok bytes) is e = blocks.plain_digits word (recursion_from_All (λ c. is_hex_digit c ≡ true) word (decode_of-ok word bytes is).1)
  by_result (Err why) is e = absurd (let no : Err Hex ≡ Ok block = e in cc)

raise_plain : Plain (codes "raise")
raise_plain = ((omega arith, omega arith), ((omega arith, omega arith), ((omega arith, omega arith), ((omega arith, omega arith), ((omega arith, omega arith), tt)))))

-- the words are `raise`, the digits and the block
words_are : (text behind word hex : List ℕ) → text ≡ codes "raise " ++ behind → IsCutAt 32 behind word hex → 0 < length word → 0 < length hex → Plain hex → words_of text ≡ codes "raise" ∷ word ∷ hex ∷ []
words_are text behind word hex is cut some more plain =
    words_of-cut text (codes "raise") behind (record { unmarked = no_space (codes "raise") raise_plain; cut = inl is }) (omega arith)
    ∙ ap (λ ws. codes "raise" ∷ ws) (words_of-cut behind word hex cut some
    ∙ ap (λ ws. word ∷ ws) (words_of-cut hex hex [] (record { unmarked = no_space hex plain; cut = inr (refl, refl) }) more ∙ ap (λ ws. hex ∷ ws) words_of-none))

-- the bytes of a word may stand in a line
word_printable : (word : List ℕ) → Plain word → list_all is_printable word ≡ true
word_printable word plain = ap (list_all is_printable) (sym (append-nil word)) ∙ printable_front word [] plain refl

-- and so may those of the line
line_printable : (behind word hex : List ℕ) → IsCutAt 32 behind word hex → Plain word → Plain hex → list_all is_printable (codes "raise " ++ behind) ≡ true
line_printable behind word hex is plain digits = by_cases is.cut where
  by_cases : ((behind ≡ word ++ 32 ∷ hex) ⊎ ((behind ≡ word) × (hex ≡ []))) → list_all is_printable behind ≡ true
  by_cases (inl e) = ap (list_all is_printable) e ∙ printable_front word (32 ∷ hex) plain (word_printable hex digits)
  by_cases (inr e) = ap (list_all is_printable) e.0 ∙ word_printable word plain

-- the source that the digits name
source_is : (setup : Setup) (word : List ℕ) (id : ℕ) (found : Found) → number_of word ≡ Some id → found_of setup.names id ≡ Some found → source_of setup word ≡ Ok found.at
unfolding source_of named
source_is setup word id found is there =
    ap (λ n. (or_kind Number n >>= λ id. or_kind Source (found_of setup.names id)) >>= λ found. Ok found.at) is
    ∙ ap (λ f. or_kind Source f >>= λ found. Ok found.at) there

-- what the words ask for
asks_raise : (setup : Setup) (sofar : Sofar) (word hex block : List ℕ) (at : ℕ) → source_of setup word ≡ Ok at → block_of hex ≡ Ok block → asked setup sofar (codes "raise") (word ∷ hex ∷ []) ≡ Ok (Raise at block)
unfolding asked command_of setting_of asked_by raise
asks_raise setup sofar word hex block at is reads =
    let next : ℕ × List ℕ → Result What ScriptKind = λ found. block_of found.1 >>= λ block. Ok (Raise found.0 block) in
    ap (λ r. r >>= next) (blocks.reads_raised setup word hex at is) ∙ ap (λ r. r >>= λ block. Ok (Raise at block)) reads

-- such a line raises the block at the source with this id
pub raises : (setup : Setup) (text behind word hex block : List ℕ) (id : ℕ) (found : Found) → length text ≤ 132000 → text ≡ codes "raise " ++ behind → IsCutAt 32 behind word hex
    → 0 < length hex → numeral 10 word ≡ Some id → found_of setup.names id ≡ Some found → block_of hex ≡ Ok block → (sofar : Sofar) → answer_of setup sofar text ≡ Asks (Raise found.at block)
unfolding answer_of
raises setup text behind word hex block id found short is cut more spells there reads sofar =
    let digits = numeral_digits word id spells in
    let plain = plain_digits word digits.1 in
    let hexadecimal = block_plain hex block reads in
    ap (λ b. cond b (Bad TooLong) (cond (list_all is_printable text) (words_answer setup sofar (words_of text)) (Bad Unprintable))) (le-ltb 132000 (length text) short)
    ∙ ap (λ b. cond b (words_answer setup sofar (words_of text)) (Bad Unprintable)) (ap (list_all is_printable) is ∙ line_printable behind word hex cut plain hexadecimal)
    ∙ ap (words_answer setup sofar) (words_are text behind word hex is cut digits.0 more hexadecimal)
    ∙ ap (in_order sofar) (asks_raise setup sofar word hex block found.at (source_is setup word id found (number_is word id digits.1 spells) there) reads)

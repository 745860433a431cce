-- The words of a text, from its front.
use Rattle.std.proofs.Common.{◌≡◌, ◌≢◌, ◌<◌, ℕ, List, [], ◌∷◌, ◌++◌, length, get_or, drop, filter, cond, ltb, ◌⊎◌, inl, inr, refl, sym, ap, ◌∙◌, arith}
use Rattle.std.specs.List.{AllByRecursion}
use Rattle.std.proofs.lemmas.Bool.{ne_eqb, lt-ltb}
use Rattle.ghes_script.specs.Cut.{IsCutAt}
use Rattle.ghes_script.specs.Words.{with_byte, pieces_of, words_of}

-- a space in front changes no word
pub words_of-space : (bytes : List ℕ) → words_of (32 ∷ bytes) ≡ words_of bytes
unfolding words_of
words_of-space bytes = refl

-- no bytes have no words
pub words_of-none : words_of [] ≡ []
unfolding words_of
words_of-none = refl

abbrev NoSpace : List ℕ → Type 0
NoSpace word = AllByRecursion (λ byte. byte ≢ 32) word

-- bytes without a space are the front of the first piece
pieces_of-word : (word rest : List ℕ) → NoSpace word → pieces_of (word ++ 32 ∷ rest) ≡ word ∷ pieces_of rest
pieces_of-word [] rest plain = refl
pieces_of-word (x ∷ xs) rest plain = ap (λ b. cond b ([] ∷ pieces_of (xs ++ 32 ∷ rest)) (with_byte x (pieces_of (xs ++ 32 ∷ rest)))) (ne_eqb x 32 plain.0) ∙ ap (with_byte x) (pieces_of-word xs rest plain.1)

pieces_of-last : (word : List ℕ) → NoSpace word → pieces_of word ≡ word ∷ []
pieces_of-last [] plain = refl
pieces_of-last (x ∷ xs) plain = ap (λ b. cond b ([] ∷ pieces_of xs) (with_byte x (pieces_of xs))) (ne_eqb x 32 plain.0) ∙ ap (with_byte x) (pieces_of-last xs plain.1)

-- The words of a text that begins with no space are what stands before its first space, and the words behind it.
pub words_of-cut : (text word rest : List ℕ) → IsCutAt 32 text word rest → 0 < length word → words_of text ≡ word ∷ words_of rest
unfolding words_of
words_of-cut text word rest is some = by_cases is.cut where
  first : (pieces : List (List ℕ)) → filter (λ piece. ltb 0 (length piece)) (word ∷ pieces) ≡ word ∷ filter (λ piece. ltb 0 (length piece)) pieces
  first pieces = ap (λ b. cond b (word ∷ filter (λ piece. ltb 0 (length piece)) pieces) (filter (λ piece. ltb 0 (length piece)) pieces)) (lt-ltb 0 (length word) some)

  by_cases : ((text ≡ word ++ 32 ∷ rest) ⊎ ((text ≡ word) × (rest ≡ []))) → filter (λ piece. ltb 0 (length piece)) (pieces_of text) ≡ word ∷ filter (λ piece. ltb 0 (length piece)) (pieces_of rest)
  by_cases (inl e) = ap (λ bytes. filter (λ piece. ltb 0 (length piece)) (pieces_of bytes)) e ∙ ap (filter (λ piece. ltb 0 (length piece))) (pieces_of-word word rest is.unmarked) ∙ first (pieces_of rest)
  by_cases (inr e) = ap (λ bytes. filter (λ piece. ltb 0 (length piece)) (pieces_of bytes)) e.0 ∙ ap (filter (λ piece. ltb 0 (length piece))) (pieces_of-last word is.unmarked) ∙ first [] ∙ ap (λ bytes. word ∷ filter (λ piece. ltb 0 (length piece)) (pieces_of bytes)) (sym e.1)

-- the first word of a text that begins with no space
pub words_of-front : (text word rest : List ℕ) → IsCutAt 32 text word rest → 0 < length text → (0 < length text → get_or text 0 0 ≢ 32) → words_of text ≡ word ∷ words_of rest
words_of-front text [] rest is some first = absurd (by_cases is.cut) where
  by_cases : ((text ≡ 32 ∷ rest) ⊎ ((text ≡ []) × (rest ≡ []))) → ⊥
  by_cases (inl e) = first some (ap (λ xs. get_or xs 0 0) e)
  by_cases (inr e) = let empty : length text ≡ 0 = ap length e.0 in omega arith
words_of-front text (x ∷ xs) rest is some first = words_of-cut text (x ∷ xs) rest is (omega arith)

-- a space is passed over
pub words_of_skip : (text : List ℕ) → 0 < length text → get_or text 0 0 ≡ 32 → words_of (drop 1 text) ≡ words_of text
words_of_skip [] some is = absurd (omega arith)
words_of_skip (x ∷ xs) some is = ap words_of (drop-zero xs) ∙ sym (words_of-space xs) ∙ ap (λ b. words_of (b ∷ xs)) (sym is) where
  drop-zero : (xs : List ℕ) → drop 0 xs ≡ xs
  drop-zero [] = refl
  drop-zero (x ∷ xs) = refl

-- Bytes are cut into lines in one way, and there is such a cut.
use Rattle.std.proofs.Common.{◌≡◌, ◌≢◌, ◌<◌, ℕ, Bool, true, false, cond, eqb, List, [], ◌∷◌, ◌++◌, length, ◌⊎◌, inl, inr, refl, sym, ap, subst, ◌∙◌, arith, length-append}
use Rattle.std.specs.List.{AllByRecursion}
use Rattle.std.proofs.lemmas.Bool.{eqb-true, eqb-false}
use Rattle.ghes_script.specs.Cut.{IsCutAt, AreLinesOf}
use Rattle.ghes_script.specs.Words.{with_byte}

-- the texts of the lines
abbrev pub lines_of : List ℕ → List (List ℕ)
lines_of [] = []
lines_of (byte ∷ bytes) = cond (eqb byte 10) ([] ∷ lines_of bytes) (with_byte byte (lines_of bytes))

-- a byte in front of a first line
longer : (byte : ℕ) (bytes : List ℕ) → byte ≢ 10 → (texts : List (List ℕ)) → AreLinesOf bytes texts → AreLinesOf (byte ∷ bytes) (with_byte byte texts)
longer byte bytes plain [] none = (omega arith, [], record { unmarked = (plain, tt); cut = inr (ap (λ xs. byte ∷ xs) none, refl) }, refl)
longer byte bytes plain (text ∷ texts) (some, rest, is, more) =
    (omega arith, rest, record { unmarked = (plain, is.unmarked); cut = by_cases is.cut }, more) where
      by_cases : ((bytes ≡ text ++ 10 ∷ rest) ⊎ ((bytes ≡ text) × (rest ≡ []))) → ((byte ∷ bytes ≡ (byte ∷ text) ++ 10 ∷ rest) ⊎ ((byte ∷ bytes ≡ byte ∷ text) × (rest ≡ [])))
      by_cases (inl e) = inl (ap (λ xs. byte ∷ xs) e)
      by_cases (inr e) = inr (ap (λ xs. byte ∷ xs) e.0, e.1)

-- these are the lines
pub are_lines : (bytes : List ℕ) → AreLinesOf bytes (lines_of bytes)
are_lines [] = refl
are_lines (byte ∷ bytes) = by_test (are_lines bytes) (eqb byte 10) refl where
  by_test : AreLinesOf bytes (lines_of bytes) → (test : Bool) → eqb byte 10 ≡ test → AreLinesOf (byte ∷ bytes) (cond test ([] ∷ lines_of bytes) (with_byte byte (lines_of bytes)))
  by_test more true is = (omega arith, bytes, record { unmarked = tt; cut = inl (ap (λ b. b ∷ bytes) (eqb-true byte 10 is)) }, more)
  by_test more false is = longer byte bytes (eqb-false byte 10 is) (lines_of bytes) more

-- no byte is a mark
abbrev Unmarked : ℕ → List ℕ → Type 0
Unmarked mark text = AllByRecursion (λ byte. byte ≢ mark) text

-- a text before the first mark is determined
cut_once : (mark : ℕ) (text text' rest rest' : List ℕ) → Unmarked mark text → Unmarked mark text' → text ++ mark ∷ rest ≡ text' ++ mark ∷ rest' → (text ≡ text') × (rest ≡ rest')
cut_once mark [] [] rest rest' plain plain' e = (refl, cc)
cut_once mark [] (y ∷ ys) rest rest' plain plain' e = let head : y ≡ mark = cc in absurd (plain'.0 head)
cut_once mark (x ∷ xs) [] rest rest' plain plain' e = let head : x ≡ mark = cc in absurd (plain.0 head)
cut_once mark (x ∷ xs) (y ∷ ys) rest rest' plain plain' e =
    let tails : xs ++ mark ∷ rest ≡ ys ++ mark ∷ rest' = cc in
    let heads : x ≡ y = cc in
    let both = cut_once mark xs ys rest rest' plain.1 plain'.1 tails in
    (let same : xs ≡ ys = both.0 in cc, both.1)

-- what stands behind a cut is shorter
pub cut_shorter : (mark : ℕ) (bytes front rest : List ℕ) → IsCutAt mark bytes front rest → 0 < length bytes → length rest < length bytes
cut_shorter mark bytes front rest is some = by_cases is.cut where
  by_cases : ((bytes ≡ front ++ mark ∷ rest) ⊎ ((bytes ≡ front) × (rest ≡ []))) → length rest < length bytes
  by_cases (inl e) = omega (arith, simp length-append at (ap length e))
  by_cases (inr e) = let none : length rest ≡ 0 = ap length e.1 in omega arith

-- a text without a mark does not have one
no_cut : (mark : ℕ) (text text' rest : List ℕ) → Unmarked mark text' → text ++ mark ∷ rest ≡ text' → ⊥
no_cut mark [] [] rest plain e = cc
no_cut mark [] (y ∷ ys) rest plain e = let head : y ≡ mark = cc in plain.0 head
no_cut mark (x ∷ xs) [] rest plain e = cc
no_cut mark (x ∷ xs) (y ∷ ys) rest plain e = let tails : xs ++ mark ∷ rest ≡ ys = cc in no_cut mark xs ys rest plain.1 tails

-- a cut is determined
same_cut : (mark : ℕ) (bytes text text' rest rest' : List ℕ) → IsCutAt mark bytes text rest → IsCutAt mark bytes text' rest' → (text ≡ text') × (rest ≡ rest')
same_cut mark bytes text text' rest rest' first second = by_cases first.cut second.cut where
  by_cases : ((bytes ≡ text ++ mark ∷ rest) ⊎ ((bytes ≡ text) × (rest ≡ []))) → ((bytes ≡ text' ++ mark ∷ rest') ⊎ ((bytes ≡ text') × (rest' ≡ []))) → (text ≡ text') × (rest ≡ rest')
  by_cases (inl e) (inl e') = cut_once mark text text' rest rest' first.unmarked second.unmarked (sym e ∙ e')
  by_cases (inl e) (inr e') = absurd (no_cut mark text text' rest second.unmarked (sym e ∙ e'.0))
  by_cases (inr e) (inl e') = absurd (no_cut mark text' text rest' first.unmarked (sym e' ∙ e.0))
  by_cases (inr e) (inr e') = (sym e.0 ∙ e'.0, e.1 ∙ sym e'.1)

-- bytes have one cut into lines
pub same_texts : (bytes : List ℕ) (texts others : List (List ℕ)) → AreLinesOf bytes texts → AreLinesOf bytes others → texts ≡ others
same_texts bytes [] [] none none' = refl
same_texts bytes [] (other ∷ others) none (some, rest, is, more) = let empty : length bytes ≡ 0 = ap length none in absurd (omega arith)
same_texts bytes (text ∷ texts) [] (some, rest, is, more) none = let empty : length bytes ≡ 0 = ap length none in absurd (omega arith)
same_texts bytes (text ∷ texts) (other ∷ others) (some, rest, is, more) (some', rest', is', more') =
    let same = same_cut 10 bytes text other rest rest' is is' in
    let P : List ℕ → Type 0 = λ r. AreLinesOf r texts in
    ap (λ t. t ∷ texts) same.0 ∙ ap (λ ts. other ∷ ts) (same_texts rest' texts others (subst P same.1 more) more')

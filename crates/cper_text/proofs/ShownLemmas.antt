-- The characters of a text, one byte after another.
use Rattle.std.proofs.Common.{◌≡◌, ◌<◌, ◌+◌, ℕ, suc, Bool, false, cond, eqb, not, List, [], ◌∷◌, map, length, drop, get_or, sym, ap, ◌∙◌, ◌≤◌, add-one}
use Rattle.std.proofs.Math.Seq.{drop-cons}
use Rattle.std.proofs.Math.ListN.{drop_of_length-le}
use Rattle.std.specs.List.{take_while}
use Rattle.std.proofs.lemmas.List.Sums.{take_while-cons}
use Rattle.cper_text.specs.Bytes.{shown, shown_text}

-- none come from a 0 on
pub shown_text-end : (bytes : List ℕ) (i : ℕ) → i < length bytes → get_or bytes i 0 ≡ 0 → shown_text (drop i bytes) ≡ []
unfolding shown_text
shown_text-end bytes i within is =
    let test : ℕ → Bool = λ byte. not (eqb byte 0) in
    ap (λ xs. map shown (take_while test xs)) (drop-cons bytes i 0 within)
    ∙ ap (map shown) (take_while-cons test (get_or bytes i 0) (drop (suc i) bytes))
    ∙ ap (λ byte. map shown (cond (test byte) (get_or bytes i 0 ∷ take_while test (drop (suc i) bytes)) [])) is

-- one comes from another byte
pub shown_text-more : (bytes : List ℕ) (i : ℕ) → i < length bytes → eqb (get_or bytes i 0) 0 ≡ false → shown_text (drop i bytes) ≡ shown (get_or bytes i 0) ∷ shown_text (drop (i + 1) bytes)
unfolding shown_text
shown_text-more bytes i within other =
    let test : ℕ → Bool = λ byte. not (eqb byte 0) in
    ap (λ xs. map shown (take_while test xs)) (drop-cons bytes i 0 within)
    ∙ ap (map shown) (take_while-cons test (get_or bytes i 0) (drop (suc i) bytes))
    ∙ ap (λ b. map shown (cond (not b) (get_or bytes i 0 ∷ take_while test (drop (suc i) bytes)) [])) other
    ∙ ap (λ n. shown (get_or bytes i 0) ∷ map shown (take_while test (drop n bytes))) (sym (add-one i))

-- none come behind the last byte
pub shown_text-none : (bytes : List ℕ) (i : ℕ) → length bytes ≤ i → shown_text (drop i bytes) ≡ []
unfolding shown_text
shown_text-none bytes i behind = ap (λ xs. map shown (take_while (λ byte. not (eqb byte 0)) xs)) (drop_of_length-le bytes behind)

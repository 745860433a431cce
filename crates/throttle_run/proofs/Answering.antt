-- Answers of looks, as hits of the first reports of one list.
use Rattle.std.proofs.Common.{◌≡◌, ℕ, ◌+◌, ◌≤◌, List, [], ◌∷◌, ◌++◌, length, take, Option, refl, ap, sym, ◌∙◌, arith, length-append}
use Rattle.std.proofs.Math.Seq.{take-append_seam}
use mathlib.Core.List.{IsPrefix}
use Rattle.ghes_throttle.specs.declared.report.Report.{Report}
use Rattle.ghes_throttle.specs.Reports.{hit}
use Rattle.ghes_throttle.proofs.Lists.{prefix_self, prefix_same, prefix_trans}
use Rattle.throttle_run.specs.Looks.{Answers, HitsOf}

pub prefix_length : {A : Type 0} (xs ys : List A) → IsPrefix xs ys → length xs ≤ length ys
prefix_length xs ys p = omega (arith, sym (ap length p.1) ∙ length-append xs p.0)

pub prefix_take : {A : Type 0} (xs ys : List A) → IsPrefix xs ys → take (length xs) ys ≡ xs
prefix_take xs ys p = ap (λ zs. take (length xs) zs) (sym p.1) ∙ take-append_seam xs p.0

-- one look more
pub answers_last : (bytes : List ℕ) (now : ℕ) (before : List Report) (answers : List (Option ℕ)) (mid : List Report) (a : Option ℕ) (s : List Report)
    → Answers bytes now before answers mid → IsPrefix mid s → a ≡ hit s bytes now → Answers bytes now before (answers ++ a ∷ []) s
answers_last bytes now before [] mid a s p q h = (s, prefix_trans before mid s p q, h, prefix_self s)
answers_last bytes now before (x ∷ answers) mid a s p q h = (p.0, p.1, p.2, answers_last bytes now p.0 answers mid a s p.3 q h)

-- what was seen goes on
pub answers_longer : (bytes : List ℕ) (now : ℕ) (before : List Report) (answers : List (Option ℕ)) (mid s : List Report)
    → Answers bytes now before answers mid → IsPrefix mid s → Answers bytes now before answers s
answers_longer bytes now before [] mid s p q = prefix_trans before mid s p q
answers_longer bytes now before (x ∷ answers) mid s p q = (p.0, p.1, p.2, answers_longer bytes now p.0 answers mid s p.3 q)

pub answers_prefix : (bytes : List ℕ) (now : ℕ) (before : List Report) (answers : List (Option ℕ)) (after : List Report) → Answers bytes now before answers after → IsPrefix before after
answers_prefix bytes now before [] after p = p
answers_prefix bytes now before (x ∷ answers) after p = prefix_trans before p.0 after p.1 (answers_prefix bytes now p.0 answers after p.3)

pub hits_of : (bytes : List ℕ) (now : ℕ) (before : List Report) (answers : List (Option ℕ)) (list : List Report) → Answers bytes now before answers list → HitsOf list bytes now (length before) answers
hits_of bytes now before [] list p = prefix_length before list p
hits_of bytes now before (x ∷ answers) list p =
    let goes = answers_prefix bytes now p.0 answers list p.3 in
    (length p.0, prefix_length before p.0 p.1, prefix_length p.0 list goes, p.2 ∙ ap (λ l. hit l bytes now) (sym (prefix_take p.0 list goes)), hits_of bytes now p.0 answers list p.3)

pub answers_none : (bytes : List ℕ) (now : ℕ) (answers : List (Option ℕ)) (list : List Report) → answers ≡ [] → Answers bytes now list answers list
answers_none bytes now [] list e = prefix_self list
answers_none bytes now (x ∷ answers) list e = absurd (cc e)

-- what lies between two equal lists is that list
pub between : {A : Type 0} (xs ys zs : List A) → IsPrefix xs ys → IsPrefix ys zs → xs ≡ zs → ys ≡ zs
between xs ys zs p q e = prefix_same ys zs zs q (prefix_self zs) (omega (arith, prefix_length xs ys p, prefix_length ys zs q, ap length e))

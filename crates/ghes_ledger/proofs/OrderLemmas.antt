-- Names that stand in the same order for each context are as many.
use Rattle.std.proofs.Common.{◌≡◌, ℕ, ◌+◌, Bool, true, false, cond, eqb, List, [], ◌∷◌, length, refl, sym, ap, ◌∙◌, arith}
use Rattle.std.proofs.lemmas.Bool.{eqb-true, eq-eqb}
use Rattle.ghes_ledger.specs.Names.{served_by}
use Rattle.ghes_ledger.specs.Plan.{Plan}

false_not_true : false ≡ true → ⊥
false_not_true x = cc

head_name : (x y : ℕ × ℕ) (xs ys : List (ℕ × ℕ)) → x ∷ xs ≡ y ∷ ys → x ≡ y
head_name x y xs ys e = cc

rest_names : (x y : ℕ × ℕ) (xs ys : List (ℕ × ℕ)) → x ∷ xs ≡ y ∷ ys → xs ≡ ys
rest_names x y xs ys e = cc

cons_is_nil : (x : ℕ × ℕ) (xs : List (ℕ × ℕ)) → x ∷ xs ≡ [] → ⊥
cons_is_nil x xs e = cc

-- names from which one was pulled to the front
record Pulled (plan : Plan) (x : ℕ × ℕ) (ys : List (ℕ × ℕ)) : Type 0 where
  rest : List (ℕ × ℕ)
  size : length ys ≡ length rest + 1
  same : (d : ℕ) → served_by plan d (x ∷ rest) ≡ served_by plan d ys

-- two names of different contexts change places
swapped : (b e : Bool) (plan : Plan) (d : ℕ) (x y : ℕ × ℕ) (xs ys : List (ℕ × ℕ)) → eqb (plan.server x.0) d ≡ b → eqb (plan.server y.0) d ≡ e → (eqb (plan.server y.0) (plan.server x.0) ≡ false) → cond b (x ∷ xs) xs ≡ ys → cond b (x ∷ cond e (y ∷ xs) xs) (cond e (y ∷ xs) xs) ≡ cond e (y ∷ ys) ys
swapped true true plan d x y xs ys f g differ same =
    let equal : eqb (plan.server y.0) (plan.server x.0) ≡ true = eq-eqb (plan.server y.0) (plan.server x.0) (eqb-true (plan.server y.0) d g ∙ sym (eqb-true (plan.server x.0) d f)) in
    absurd (false_not_true (sym differ ∙ equal))
swapped true false plan d x y xs ys f g differ same = same
swapped false true plan d x y xs ys f g differ same = ap (λ zs. y ∷ zs) same
swapped false false plan d x y xs ys f g differ same = same

pull_here : (b : Bool) (plan : Plan) (x y : ℕ × ℕ) (rest ys : List (ℕ × ℕ)) → eqb (plan.server y.0) (plan.server x.0) ≡ b → cond b (y ∷ served_by plan (plan.server x.0) ys) (served_by plan (plan.server x.0) ys) ≡ x ∷ rest → (served_by plan (plan.server x.0) ys ≡ x ∷ rest → Pulled plan x ys) → Pulled plan x (y ∷ ys)
pull_here true plan x y rest ys b e later =
    let same : y ≡ x = head_name y x (served_by plan (plan.server x.0) ys) rest e in
    record { rest = ys; size = omega arith; same = λ d. ap (λ z. served_by plan d (z ∷ ys)) (sym same) }
pull_here false plan x y rest ys b e later =
    let inner : Pulled plan x ys = later e in
    record {
      rest = y ∷ inner.rest;
      size = omega (arith, inner.size);
      same = λ d. swapped (eqb (plan.server x.0) d) (eqb (plan.server y.0) d) plan d x y (served_by plan d inner.rest) (served_by plan d ys) refl refl b (inner.same d);
    }

pull : (plan : Plan) (x : ℕ × ℕ) (rest ys : List (ℕ × ℕ)) → served_by plan (plan.server x.0) ys ≡ x ∷ rest → Pulled plan x ys
pull plan x rest [] e = absurd (cons_is_nil x rest (sym e))
pull plan x rest (y ∷ ys) e = pull_here (eqb (plan.server y.0) (plan.server x.0)) plan x y rest ys refl e (λ later. pull plan x rest ys later)

stripped : (b : Bool) (x : ℕ × ℕ) (xs ys : List (ℕ × ℕ)) → cond b (x ∷ xs) xs ≡ cond b (x ∷ ys) ys → xs ≡ ys
stripped true x xs ys e = rest_names x x xs ys e
stripped false x xs ys e = e

-- names in the same order for each context are as many
pub same_count : (plan : Plan) (xs ys : List (ℕ × ℕ)) → ((c : ℕ) → served_by plan c xs ≡ served_by plan c ys) → length xs ≡ length ys
same_count plan [] [] all = refl
same_count plan [] (y ∷ ys) all =
    let own : eqb (plan.server y.0) (plan.server y.0) ≡ true = eq-eqb (plan.server y.0) (plan.server y.0) refl in
    let one : y ∷ served_by plan (plan.server y.0) ys ≡ [] = sym (ap (λ b. cond b (y ∷ served_by plan (plan.server y.0) ys) (served_by plan (plan.server y.0) ys)) own) ∙ sym (all (plan.server y.0)) in
    absurd (cons_is_nil y (served_by plan (plan.server y.0) ys) one)
same_count plan (x ∷ xs) ys all =
    let c = plan.server x.0 in
    let own : eqb c c ≡ true = eq-eqb c c refl in
    let first : served_by plan c ys ≡ x ∷ served_by plan c xs = sym (all c) ∙ ap (λ b. cond b (x ∷ served_by plan c xs) (served_by plan c xs)) own in
    let pulled : Pulled plan x ys = pull plan x (served_by plan c xs) ys first in
    let rest : (d : ℕ) → served_by plan d xs ≡ served_by plan d pulled.rest = λ d. stripped (eqb c d) x (served_by plan d xs) (served_by plan d pulled.rest) (all d ∙ sym (pulled.same d)) in
    omega (arith, pulled.size, same_count plan xs pulled.rest rest)

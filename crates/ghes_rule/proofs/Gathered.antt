-- The loops of build, spread and gather.
use Rattle.std.proofs.Common.{◌≡◌, ◌≢◌, ◌⊎◌, ℕ, zero, suc, ◌+◌, ◌-◌, ◌*◌, ◌<◌, ◌≤◌, Bool, true, false, List, [], ◌∷◌, ◌++◌, length, set, sym, refl, ap, ◌∙◌, subst, arith, inl, inr, ⊎_elim, Option, Some, None, vec_capacity, length-append, length-set}
use mathlib.Core.Logic.{dite}
use mathlib.Core.Option.{some, none, some-injective, some-ne-none}
use native.Mathlib.Decide.{ℕ_discrete, dec_le}
use lib.ListN.{get_elem?}
use Rattle.atomic_table.proofs.Lists.{at_set, set_here, set_else, at_longer, at_last}
use Rattle.atomic_table.specs.Seated.{TableId}
use Rattle.ghes_rule.specs.declared.views.Cell.{Cell}
use Rattle.ghes_rule.specs.declared.views.Stage.TheVariants.{Idle}
use Rattle.ghes_rule.specs.declared.views.PassView.{PassView}
use Rattle.ghes_rule.specs.declared.views.WorkView.{WorkView}
use Rattle.ghes_rule.specs.declared.views.View.TheVariants.{OfPass, OfWork}
use Rattle.ghes_rule.specs.Moves.{pass_of, view_or, view_at, all_back, first_back, joined, without_first, let_out, outs, since_of, IsSameButPasses, Settled}
use Rattle.ghes_rule.specs.Kept.{first_pass}
use Rattle.ghes_rule.specs.Seen.{PassSeen, AreEmptyCells, AreLetOut, AreFirst, pass_seen}
use Rattle.ghes_rule.proofs.Puts.{at_below, one_at, at_grown}
use Rattle.ghes_rule.proofs.BackLemmas.{back_all}
use Rattle.ghes_rule.proofs.Outs.{outs_length, outs_first, outs_next, outs_at}

pub at_some : {A : Type 0} → (xs : List A) (i : ℕ) → i < length xs → (x : A) × (get_elem? xs i ≡ some x)
at_some [] i l = absurd (omega arith)
at_some (x ∷ xs) zero l = (x, refl)
at_some (x ∷ xs) (suc i) l = at_some xs i (omega arith)

-- each element of a list that grows by one
pub grown : {A : Type 0} (P : ℕ → A → Type 0) (xs ys : List A) (a : A) (n : ℕ) → ys ≡ xs ++ a ∷ [] → length xs ≡ n → P n a → ((q : ℕ) → q < n → (x : A) × (get_elem? xs q ≡ some x) × P q x)
    → (length ys ≡ n + 1) × ((q : ℕ) → q < n + 1 → (x : A) × (get_elem? ys q ≡ some x) × P q x)
grown P xs ys a n is len here there = (
  ap length is ∙ (length-append xs (a ∷ []) ∙ ap (λ m. m + 1) len),
  λ q l. dite (ℕ_discrete q n)
      (λ e. (a, ap (λ zs. get_elem? zs q) is ∙ (ap (get_elem? (xs ++ a ∷ [])) e ∙ at_last xs a n len), subst (λ m. P m a) (sym e) here))
      (λ ne. let t = there q (omega arith) in (t.0, ap (λ zs. get_elem? zs q) is ∙ at_longer xs (a ∷ []) q t.0 t.1, t.2)),
)

abbrev pub IsEmptyCell : ℕ → ℕ → Option Cell → Type 0
IsEmptyCell room i y = (c : Cell) × (y ≡ Some c) × (c.packet.bytes.bytes ≡ []) × (room ≤ c.packet.bytes.room)

pub cells_grow : (room n : ℕ) (xs ys : List (Option Cell)) (c : Cell) → ys ≡ xs ++ Some c ∷ [] → (c.packet.bytes.bytes ≡ []) × (room ≤ c.packet.bytes.room) → AreEmptyCells room n xs → AreEmptyCells room (n + 1) ys
cells_grow room n xs ys c is fine old = let g = grown (IsEmptyCell room) xs ys (Some c) n is old.0 (c, refl, fine.0, fine.1) (λ q l. let t = old.1 q l in (Some t.0, t.1, (t.0, refl, t.2, t.3))) in
    (g.0, λ q l. let t = g.1 q l in (t.2.0, t.1 ∙ ap some t.2.1, t.2.2, t.2.3))

pub passes_grow : (z : TableId) (w : WorkView) (n : ℕ) (xs ys : List PassSeen) (x : PassSeen) → ys ≡ xs ++ x ∷ [] → x ≡ pass_seen z (since_of w n) → AreLetOut z w n xs → AreLetOut z w (n + 1) ys
passes_grow z w n xs ys x is fine old = (
  ap length is ∙ (length-append xs (x ∷ []) ∙ ap (λ m. m + 1) old.0),
  λ q l. dite (ℕ_discrete q n)
      (λ e. ap (λ zs. get_elem? zs q) is ∙ (ap (get_elem? (xs ++ x ∷ [])) e ∙ (at_last xs x n old.0 ∙ ap some (fine ∙ ap (λ m. pass_seen z (since_of w m)) (sym e)))))
      (λ ne. ap (λ zs. get_elem? zs q) is ∙ at_longer xs (x ∷ []) q (pass_seen z (since_of w q)) (old.1 q (omega arith))),
)

module _ (w : WorkView) (i : ℕ) (back : all_back w.passes ≡ true) (l : i < length w.passes) where
  pub out_next : without_first (record w { passes = outs i w.passes }) ≡ record w { passes = outs (i + 1) w.passes }
  out_next = ap (λ ps. let z : WorkView = record w { passes = ps } in z) (ap (λ j. set (outs i w.passes) j None) (outs_first i w.passes back l) ∙ (outs_next i w.passes l ∙ ap (λ j. outs j w.passes) (let g : suc i ≡ i + 1 = omega arith in g)))

  pub out_now : let_out (record w { passes = outs i w.passes }) ≡ since_of w i
  out_now = ap (λ v. let z : PassView = record v { since = w.ended } in z) (ap (view_at (outs i w.passes)) (outs_first i w.passes back l) ∙ outs_at i w.passes)

  pub out_some : first_back (outs i w.passes) < length (outs i w.passes)
  out_some = let a = outs_first i w.passes back l in let b = outs_length i w.passes in omega arith

-- the last of the passes at the start
pub popped_first : (z : TableId) (room k : ℕ) (old new : List PassSeen) (x : PassSeen) → old ≡ new ++ x ∷ [] → AreFirst z room k (length old) old
    → AreFirst z room k (length new) new × (x ≡ pass_seen z (first_pass room k (length new)))
popped_first z room k old new x is first = let len = ap length is ∙ length-append new (x ∷ []) in let each = first.1 in (
  (refl, λ q l. let y = at_some new q l in y.1 ∙ (sym (ap (λ zs. get_elem? zs q) is ∙ at_longer new (x ∷ []) q y.0 y.1) ∙ each q (omega arith))),
  some-injective x (pass_seen z (first_pass room k (length new))) (sym (ap (λ zs. get_elem? zs (length new)) is ∙ at_last new x (length new) refl) ∙ each (length new) (omega arith)),
)

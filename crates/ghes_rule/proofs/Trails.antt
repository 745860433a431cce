-- The decoder's trail over its steps.
use Rattle.std.proofs.Common.{◌≡◌, ◌≢◌, ℕ, zero, suc, ◌+◌, ◌-◌, ◌*◌, ◌^◌, ◌<◌, ◌≤◌, true, List, [], ◌∷◌, ◌++◌, length, reverse, sym, refl, ap, ◌∙◌, subst, arith, Option, Some, None, vec_capacity}
use Rattle.std.proofs.lemmas.List.{reverse-append, reverse-reverse}
use mathlib.Core.Option.{some, none}
use Rattle.atomic_table.specs.Table.{Allows, step}
use Rattle.ghes_rule.specs.declared.views.Hand.TheVariants.{Bare, Full}
use Rattle.ghes_rule.specs.declared.views.WorkView.{WorkView}
use Rattle.ghes_rule.specs.declared.views.View.TheVariants.{OfWork}
use Rattle.ghes_rule.specs.declared.work.Trail.{Trail}
use Rattle.ghes_rule.specs.Kept.{IsKept}
use Rattle.ghes_rule.specs.Moves.{Sat, HasEmpty, with_chain, with_link, detached, walked_on, took_first, gave, tail_of}
use Rattle.std.proofs.Common.{length-append}
use Rattle.ghes_rule.specs.declared.views.PassView.{PassView}
use Rattle.ghes_rule.specs.declared.views.Pushed.{Pushed}
use Rattle.ghes_rule.specs.Kept.{of_pass}
use Rattle.ghes_rule.specs.Moves.{all_back, view_at, IsOldest}
use Rattle.ghes_rule.specs.Seen.{AllBelow, IsTrail}
use Rattle.ghes_rule.proofs.DetachKeeps.{detaches}
use Rattle.ghes_rule.proofs.WalkKeeps.{walks}
use Rattle.ghes_rule.proofs.TakeKeeps.{takes_first}
use Rattle.ghes_rule.proofs.GiveKeeps.{gives_back}

module _ (room n slots k id : ℕ) (me : Sat) (w : WorkView) (same : k ≡ slots) (is : me.0 ≡ OfWork w) where
  pub detaches_at : w.walked ≡ [] → w.cursor ≡ 0 → w.held ≡ Bare → Allows (IsKept room n) slots id me (2 * k) (λ _. 0) (detached (step slots (2 * k) 0 0 none) me)
  detaches_at a b c = subst (λ k. Allows (IsKept room n) slots id me (2 * k) (λ _. 0) (detached (step slots (2 * k) 0 0 none) me)) (sym same) (detaches room n slots id me w is a b c)

  pub walks_at : (j : ℕ) → 0 < w.cursor → j ≡ w.cursor - 1 → Allows (IsKept room n) slots id me (k + j) (λ x. x) (walked_on (step slots (k + j) 0 0 none) me)
  walks_at j pos is_j = subst (λ k. Allows (IsKept room n) slots id me (k + j) (λ x. x) (walked_on (step slots (k + j) 0 0 none) me)) (sym same) (walks room n slots id j me w is (omega arith))

  pub takes_at : (i : ℕ) (rest : List ℕ) → me.1 ≡ [] → w.walked ≡ i ∷ rest → w.cursor ≡ 0 → w.held ≡ Bare → Allows (IsKept room n) slots id me (k + i) (λ _. 0) (λ _. took_first (step slots (k + i) 0 0 none) me 0)
  takes_at i rest a b c d = subst (λ k. Allows (IsKept room n) slots id me (k + i) (λ _. 0) (λ _. took_first (step slots (k + i) 0 0 none) me 0)) (sym same) (takes_first room n slots id i rest me w is a b c d)

pub trail_chain : (k x : ℕ) (t t' : Trail) (w : WorkView) → IsTrail k t w → w.cursor ≡ 0 → x ≤ k → t'.cursor ≡ x → t'.slots ≡ t.slots → IsTrail k t' (with_chain w x)
trail_chain k zero t t' w r z l c s = record {
  cursor = c ∙ sym z;
  items = ap (λ v. v.items) s ∙ r.items;
  low = r.low;
  below = r.below;
  short = r.short;
  room = subst (λ v. k ≤ vec_capacity v) (sym s) r.room;
}
trail_chain k (suc i) t t' w r z l c s = record {
  cursor = c;
  items = ap (λ v. v.items) s ∙ r.items;
  low = l;
  below = r.below;
  short = r.short;
  room = subst (λ v. k ≤ vec_capacity v) (sym s) r.room;
}

pub trail_same : (k x : ℕ) (t t' : Trail) (w : WorkView) → IsTrail k t w → x ≡ 0 → t' ≡ t → IsTrail k t' (with_link w x)
trail_same k zero t t' w r z s = subst (λ u. IsTrail k u (with_link w 0)) (sym s) record { cursor = r.cursor; items = r.items; low = r.low; below = r.below; short = r.short; room = r.room }
trail_same k (suc x) t t' w r z s = absurd (omega arith)

pub trail_link : (k x : ℕ) (t t' : Trail) (w : WorkView) → IsTrail k t w → 0 < w.cursor → x ≢ 0 → x ≤ k + 1 → length w.walked + 1 ≤ k → t'.cursor ≡ x - 1 → t'.slots.items ≡ t.slots.items ++ (t.cursor - 1) ∷ [] → k ≤ vec_capacity t'.slots
    → IsTrail k t' (with_link w x)
trail_link k zero t t' w r pos ne l m c s cap = absurd (ne refl)
trail_link k (suc v) t t' w r pos ne l m c s cap = let low = r.low in record {
  cursor = c ∙ (let g : suc v - 1 ≡ v = omega arith in g);
  items = s ∙ ((λ j. r.items j ++ (r.cursor j - 1) ∷ []) ∙ sym (reverse-append ((w.cursor - 1) ∷ []) w.walked));
  low = omega arith;
  below = (omega arith, r.below);
  short = omega arith;
  room = cap;
}

-- the last of the vector is the oldest slot
pub pop_walked : (k : ℕ) (t : Trail) (w : WorkView) (new : List ℕ) (slot : ℕ) → IsTrail k t w → t.slots.items ≡ new ++ slot ∷ [] → w.walked ≡ slot ∷ reverse new
pop_walked k t w new slot r is = sym (reverse-reverse w.walked) ∙ (ap reverse (sym r.items ∙ is) ∙ reverse-append new (slot ∷ []))

pub pop_below : (k : ℕ) (t : Trail) (w : WorkView) (new : List ℕ) (slot : ℕ) → IsTrail k t w → t.slots.items ≡ new ++ slot ∷ [] → slot < k
pop_below k t w new slot r is = (subst (AllBelow k) (pop_walked k t w new slot r is) r.below).0

-- the trail after its oldest slot was taken
pub trail_taken : (k : ℕ) (t t' : Trail) (w w' : WorkView) (new : List ℕ) (slot : ℕ) → IsTrail k t w → t.slots.items ≡ new ++ slot ∷ [] → t'.cursor ≡ t.cursor → t'.slots.items ≡ new → vec_capacity t'.slots ≡ vec_capacity t.slots
    → w'.cursor ≡ w.cursor → w'.walked ≡ tail_of w.walked → IsTrail k t' w'
trail_taken k t t' w w' new slot r is c s room cu wa = let walked = pop_walked k t w new slot r is in let now : w'.walked ≡ reverse new = wa ∙ ap tail_of walked in record {
  cursor = c ∙ (r.cursor ∙ sym cu);
  items = s ∙ (sym (reverse-reverse new) ∙ ap reverse (sym now));
  low = subst (λ x. x ≤ k) (sym cu) r.low;
  below = subst (AllBelow k) (sym now) (subst (AllBelow k) walked r.below).1;
  short = let a = r.short in let b = ap length walked in let d = ap length now in omega arith;
  room = subst (λ x. k ≤ x) (sym room) r.room;
}

pub gives_at : (room n slots id i g : ℕ) (me : Sat) (w : WorkView) → me.0 ≡ OfWork w → HasEmpty w.room i me.1 → w.held ≡ Full i g → Allows (IsKept room n) slots id me i (λ _. 2 * (g + 1)) (λ _. gave (step slots i (2 * (g + 1)) 0 none) me (2 * (g + 1)))
gives_at = gives_back

-- a trail with no slots is of a view with none walked
pub no_walked : (k : ℕ) (t : Trail) (w : WorkView) → IsTrail k t w → length t.slots.items ≡ 0 → w.walked ≡ []
no_walked k t w r z = go w.walked (sym (ap length r.items) ∙ z)
  where
    go : (xs : List ℕ) → length (reverse xs) ≡ 0 → xs ≡ []
    go [] e = refl
    go (x ∷ xs) e = absurd (let a = ap length (reverse-append (x ∷ []) xs) in let b = length-append (reverse xs) (x ∷ []) in omega arith)

pub trail_kept : (k : ℕ) (t : Trail) (w w' : WorkView) → IsTrail k t w → w'.cursor ≡ w.cursor → w'.walked ≡ w.walked → IsTrail k t w'
trail_kept k t w w' r c x = record {
  cursor = r.cursor ∙ sym c;
  items = r.items ∙ ap reverse (sym x);
  low = subst (λ z. z ≤ k) (sym c) r.low;
  below = subst (AllBelow k) (sym x) r.below;
  short = subst (λ z. length z ≤ k) (sym x) r.short;
  room = r.room;
}

-- What steps of the decoder have in common.
use Rattle.std.proofs.Common.{◌≡◌, ◌≢◌, ◌⊎◌, ℕ, zero, suc, ◌+◌, ◌-◌, ◌*◌, ◌<◌, ◌≤◌, eqb, Bool, true, false, List, [], ◌∷◌, ◌++◌, length, map, get_or, set, sym, refl, ap, ◌∙◌, subst, arith, inl, inr, ⊎_elim, Option, Some, None, length-set, length-append, take, drop}
use mathlib.Core.Logic.{dite}
use mathlib.Core.Option.{some, none, some-injective, some-ne-none}
use mathlib.Core.Option as maybe
use native.Mathlib.Decide.{ℕ_discrete, dec_le}
use lib.ListN.{get_elem?}
use Rattle.std.proofs.lemmas.List.{take-append-drop}
use Rattle.atomic_table.specs.Table.{State}
use Rattle.ghes_rule.specs.declared.views.Cell.{Cell}
use Rattle.ghes_rule.specs.declared.views.Turn.{Turn}
use Rattle.ghes_rule.specs.declared.views.Pushed.{Pushed}
use Rattle.ghes_rule.specs.declared.views.Stage.{Stage}
use Rattle.ghes_rule.specs.declared.views.Stage.TheVariants.{Idle, Holding, Swapped}
use Rattle.ghes_rule.specs.declared.views.Hand.{Hand}
use Rattle.ghes_rule.specs.declared.views.Hand.TheVariants.{Bare, Full}
use Rattle.ghes_rule.specs.declared.views.PassView.{PassView}
use Rattle.ghes_rule.specs.declared.views.WorkView.{WorkView}
use Rattle.ghes_rule.specs.declared.views.View.{View}
use Rattle.ghes_rule.specs.declared.views.View.TheVariants.{OfPass, OfWork, Spent}
use Rattle.ghes_rule.specs.Kept.{Spot, free, with_pass, waits, at_desk, busy, In, when, sum_to, count, count_in, of_pass, turn, IsBelow, Slots, InStage, PassOk, Counts, Linked, Chain, InHand, DeskOk, Knows, Seats, Held, Panic, IsKept}
use Rattle.ghes_rule.specs.Moves.{view_or, view_at, all_back, in_hand, ended_of, Settled}
use Rattle.atomic_table.specs.Table.{Me, Act, keeps, Allows, Splits, Joins, step}
use Rattle.atomic_table.proofs.Lists.{at_set, set_here, set_else, set_again, at_snoc, at_longer, at_last}
use lib.Seq.{set-get_or}
use Rattle.ghes_rule.specs.Moves.{Sat, pass_of, work_of, first_back, joined, join_views, without_first, let_out, split_left, split_right, ended_if, tab, told_settled}
use Rattle.std.proofs.Common.{◌/◌, ◌%◌, bit_or, vec_capacity, get_or-set_same, get_or-set_other}
use Rattle.std.proofs.lemmas.Nat.{or_disjoint}
use Rattle.atomic_table.specs.Table.{takes, gives, stepped}
use Rattle.ghes_rule.specs.Kept.{pushed_slot}
use Rattle.ghes_rule.specs.Kept
use Rattle.ghes_rule.specs.Moves.{with_claim, with_found, without_claim, HasEmpty, tried, freed}
use Rattle.std.proofs.lemmas.List.{take-append-le}
use Rattle.ghes_rule.specs.Moves.{with_chain, with_link, with_taken, with_given, detached, walked_on, took, took_first, gave, tail_of, first_walked, hand_slot}
use Rattle.std.proofs.lemmas.List.{take_all}
use Rattle.ghes_rule.specs.Moves.{AllTaken, IsOldest}
use Rattle.atomic_table.proofs.Lists.{drop_at}
use Rattle.ghes_rule.proofs.Puts.{at_drop, sum_slots, sum_few, length_drop}
use Rattle.ghes_rule.proofs.Quiet.{spot_code, waits_at, count_absent, count_present}
use Rattle.ghes_rule.proofs.Keeps.{below_zero, length_take_drop}
use Rattle.ghes_rule.proofs.BackLemmas.{same_views}

pub record SameDesk (w w' : WorkView) : Type 0 where
  pub room : w'.room ≡ w.room
  pub held : w'.held ≡ w.held
  pub taken : w'.taken ≡ w.taken
  pub ended : w'.ended ≡ w.ended
  pub passes : w'.passes ≡ w.passes
  pub loads : w'.loads ≡ w.loads

abbrev pub IsWalked : List Pushed → ℕ → ℕ → List ℕ → Type 0
IsWalked log walk top xs = (m : ℕ) × (walk + m ≡ top) × (xs ≡ map pushed_slot (take m (drop walk log)))

pub desk_keep : {k n room : ℕ} {log : List Pushed} {age : ℕ → ℕ} {spot : ℕ → Spot} {seat : ℕ → ℕ} {from walk top : ℕ} {w : WorkView} (walk' top' : ℕ) (w' : WorkView) → DeskOk k n room log age spot seat from walk top w → SameDesk w w'
    → IsBelow log from walk' w'.cursor → IsWalked log walk' top' w'.walked → ((i g : ℕ) → w'.held ≡ Full i g → w'.cursor ≡ 0) → DeskOk k n room log age spot seat from walk' top' w'
desk_keep {k} {n} {room} {log} {age} {spot} {seat} {from} {walk} {top} {w} walk' top' w' r same cursor walked end = record {
  room_is = same.room ∙ r.room_is;
  cursor = cursor;
  walked = walked;
  taken = same.taken ∙ r.taken;
  hand = subst (InHand k age spot) (sym same.held) r.hand;
  hand_end = end;
  desk = λ i l e. same.held ∙ r.desk i l e;
  holder = r.holder;
  as_long = ap length same.ended ∙ r.as_long;
  ended = λ i l. subst (λ xs. get_or xs i 0 ≤ age i) (sym same.ended) (r.ended i l);
  all_ended = λ all i l. ap (λ xs. get_or xs i 0) same.ended ∙ r.all_ended all i l;
}

module _ {room n : ℕ} {s : State (Option Cell) View} (r : IsKept room n s) where
  -- no more pushes wait than there are slots
  pub pending_short : length r.log ≤ r.from + r.k
  pending_short = let es : List Pushed = drop r.from r.log in let m = r.chain.marks in let m₂ = m.2 in let m₁ = m.1 in let m₀ = m.0 in
      let a = sum_slots r.k es (λ t e at. (waits_at r.chain (r.from + t) e (omega arith) (sym (at_drop r.log r.from t) ∙ at)).0) in
      let b = sum_few r.k (λ i. count_in i es) (λ i l. dite (ℕ_discrete (spot_code (r.spot i)) 2) (λ c. one i l c) (λ c. let z = count_absent r.chain i c in omega arith)) in
      let d = length_drop r.from r.log (omega arith) in omega arith
    where
      one : (i : ℕ) → i < r.k → spot_code (r.spot i) ≡ 2 → count_in i (drop r.from r.log) ≤ 1
      one i l c = go (r.spot i) refl
        where
          go : (Q : Spot) → r.spot i ≡ Q → count_in i (drop r.from r.log) ≤ 1
          go free e = absurd (let q = sym (ap spot_code e) ∙ c in omega arith)
          go (with_pass p) e = absurd (let q = sym (ap spot_code e) ∙ c in omega arith)
          go (waits t) e = let at = subst (Kept.At r.k room s.words s.homes r.log r.from (r.age i) i) e (r.slots.each i l) in let b = at.3 in let z = count_present r.chain i t b.0 at.1 b.2 b.3 in omega arith
          go at_desk e = absurd (let q = sym (ap spot_code e) ∙ c in omega arith)

  -- a number that names a waiting push, or none, is at most the number of slots
  pub below_le : (b t v : ℕ) → r.from ≤ b → IsBelow r.log b t v → v ≤ r.k
  below_le b t v low h = ⊎_elim (λ a. let q = a.1 in omega arith) (λ a. let q = a.5 in let q' = a.3 in let y = (waits_at r.chain a.0 a.1 (omega arith) a.4).0 in omega arith) h

  -- where every pass is ended, the decoder has what each pushed
  pub mine_known : all_back r.desk.passes ≡ true → (es : List Pushed) → es ≡ r.log → (p : ℕ) → p < length r.desk.passes → (view_at r.desk.passes p).mine ≡ of_pass p es
  mine_known back es are p l = let l' : p < n = (let m = r.seats.as_many in omega arith) in ap (λ (z : PassView). z.mine) (same_views r back p l').0 ∙ ((r.passes p l').mine ∙ ap (of_pass p) (sym are))

  -- nothing is walked and the rest is empty
  pub nothing_held_back : r.desk.walked ≡ [] → r.desk.cursor ≡ 0 → (r.walk ≡ r.from) × (r.top ≡ r.from)
  nothing_held_back bare_walk end = let a = below_zero r.log r.from r.walk r.desk.cursor end r.work.cursor in let t = r.work.walked in let m : ℕ = t.0 in let sum = t.1 in let marks = r.chain.marks in let m₂ = marks.2 in
      let b : length r.desk.walked ≡ m = ap length t.2 ∙ length_take_drop m r.walk r.log (omega arith) in let c : length r.desk.walked ≡ 0 = ap length bare_walk in (a, omega arith)

abbrev pub hand_code : Hand → ℕ
hand_code Bare = 0
hand_code (Full i g) = 1

pub bare_not_full : (h : Hand) (i g : ℕ) → h ≡ Bare → h ≡ Full i g → ⊥
bare_not_full h i g a b = let q : hand_code Bare ≡ hand_code (Full i g) = ap hand_code (sym a ∙ b) in absurd (omega arith)

-- A pass gives its claim up.
use Rattle.std.proofs.Common.{◌≡◌, ◌≢◌, ◌⊎◌, ℕ, zero, suc, ◌+◌, ◌-◌, ◌*◌, ◌<◌, ◌≤◌, eqb, Bool, true, false, List, [], ◌∷◌, ◌++◌, length, map, get_or, set, sym, refl, ap, ◌∙◌, subst, arith, inl, inr, ⊎_elim, Option, Some, None, length-set, length-append, take, drop}
use mathlib.Core.Logic.{dite}
use mathlib.Core.Option.{some, none, some-injective, some-ne-none}
use mathlib.Core.Option as maybe
use native.Mathlib.Decide.{ℕ_discrete, dec_le}
use lib.ListN.{get_elem?}
use Rattle.std.proofs.lemmas.List.{take-append-drop}
use Rattle.atomic_table.specs.Table.{State}
use Rattle.ghes_rule.specs.declared.views.Cell.{Cell}
use Rattle.ghes_rule.specs.declared.views.Turn.{Turn}
use Rattle.ghes_rule.specs.declared.views.Pushed.{Pushed}
use Rattle.ghes_rule.specs.declared.views.Stage.{Stage}
use Rattle.ghes_rule.specs.declared.views.Stage.TheVariants.{Idle, Holding, Swapped}
use Rattle.ghes_rule.specs.declared.views.Hand.{Hand}
use Rattle.ghes_rule.specs.declared.views.Hand.TheVariants.{Bare, Full}
use Rattle.ghes_rule.specs.declared.views.PassView.{PassView}
use Rattle.ghes_rule.specs.declared.views.WorkView.{WorkView}
use Rattle.ghes_rule.specs.declared.views.View.{View}
use Rattle.ghes_rule.specs.declared.views.View.TheVariants.{OfPass, OfWork, Spent}
use Rattle.ghes_rule.specs.Kept.{Spot, free, with_pass, waits, at_desk, busy, In, when, sum_to, count, count_in, of_pass, turn, IsBelow, Slots, InStage, PassOk, Counts, Linked, Chain, InHand, DeskOk, Knows, Seats, Held, Panic, IsKept}
use Rattle.ghes_rule.specs.Moves.{view_or, view_at, all_back, in_hand, ended_of, Settled}
use Rattle.atomic_table.specs.Table.{Me, Act, keeps, Allows, Splits, Joins, step}
use Rattle.atomic_table.proofs.Lists.{at_set, set_here, set_else, set_again, at_snoc, at_longer, at_last}
use lib.Seq.{set-get_or}
use Rattle.ghes_rule.specs.Moves.{Sat, pass_of, work_of, first_back, joined, join_views, without_first, let_out, split_left, split_right, ended_if, tab, told_settled}
use Rattle.std.proofs.Common.{◌/◌, ◌%◌, bit_or, vec_capacity, get_or-set_same, get_or-set_other}
use Rattle.std.proofs.lemmas.Nat.{or_disjoint}
use Rattle.atomic_table.specs.Table.{takes, gives, stepped}
use Rattle.ghes_rule.specs.Kept.{pushed_slot}
use Rattle.ghes_rule.specs.Kept
use Rattle.ghes_rule.specs.Moves.{with_claim, with_found, without_claim, HasEmpty, tried, freed}
use Rattle.std.proofs.lemmas.Nat.{and_mask}
use Rattle.std.specs.Int.Bits.{or_add_and}
use Rattle.std.proofs.Common.{◌^◌}
use Rattle.ghes_rule.proofs.Puts.{put, put_at, put_else, put_field}
use Rattle.ghes_rule.proofs.Frames.{pass_known, counts_same}
use Rattle.ghes_rule.proofs.Quiet.{spot_code, spots_apart, not_both}
use Rattle.ghes_rule.proofs.PassSteps.{pass_moves, one_holder, slot_or}

pub frees : (room n slots id : ℕ) (me : Sat) (v : PassView) (i g : ℕ) → me.0 ≡ OfPass v → HasEmpty v.room i me.1 → v.stage ≡ Holding i g
    → Allows (IsKept room n) slots id me i (λ _. 2 * (g + 1)) (λ _. freed (step slots i (2 * (g + 1)) 0 none) me (2 * (g + 1)))
frees room n slots id me v i g is has holds s r deep at _ =
    let at' : get_elem? s.views id ≡ some (OfPass v) = at ∙ ap some is in let known = pass_known r.seats id v at' in let p : ℕ = v.number in let l : p < n = known.0 in let pass_is : r.pass p ≡ v = known.2 in
    let staged = subst (InStage r.k s.words r.log r.age r.spot p) (ap (λ (z : PassView). z.stage) pass_is ∙ holds) (r.passes p l).stage in
    let inside : i < r.k = staged.0 in let was : r.spot i ≡ with_pass p = staged.1 in let age_is : r.age i ≡ g = staged.2 in let place = subst (Kept.At r.k room s.words s.homes r.log r.from (r.age i) i) was (r.slots.each i inside) in
    let x : ℕ = 2 * (g + 1) in let c : Cell = has.0 in let v' : PassView = without_claim v in
    let rm : v.room ≡ room = ap (λ (z : PassView). z.room) (sym pass_is) ∙ (r.passes p l).room_is in
    let v_of : v ≡ pass_of me.0 = ap pass_of (sym is) in (
      OfPass v',
      gives,
      tt,
      subst (λ (cs : List (ℕ × Option Cell)). IsKept room n (stepped s i x id cs (OfPass v') gives)) (sym has.1)
          (pass_moves r id v v' i x (g + 1) (set s.homes i (some (Some c))) free at' inside refl refl refl refl (refl, refl) (let q = ap spot_code was in omega arith) (omega arith) (omega arith) (length-set s.homes i (some (Some c))) (λ j ne. set_else s.homes i j (some (Some c)) ne)
          (get_or-set_same s.words i x 0 (let wd = r.slots.wide in omega arith), get_or-set_other s.words i (r.k + i) x 0 (λ e. omega arith) ∙ place.1, (c, set_here s.homes i (some (Some c)) (let dp = r.slots.deep in omega arith), has.2, subst (λ z. z ≤ c.packet.bytes.room) rm has.3))
          tt
          (λ q ne e. ne (sym (one_holder p q (sym was ∙ e))))
          (λ q e. absurd (spots_apart free (with_pass q) (λ h. omega arith) e))
          (λ j h ne e. ne (sym (ap slot_or (sym holds ∙ e)))) (λ j old e. not_both v.stage i g j old holds e)
          (counts_same {total = λ j. r.age j + busy (r.spot j)} {total' = λ j. put r.age i (g + 1) j + busy (put r.spot i free j)}
          (λ j m. dite (ℕ_discrete j i)
          (λ e. (λ z. put_at r.age i (g + 1) j e z + busy (put_at r.spot i free j e z)) ∙ (let a = ap busy was in let b = ap (λ z. r.age z + busy (r.spot z)) e in let h : g + 1 + busy free ≡ r.age j + busy (r.spot j) = omega arith in h))
          (λ ne. (λ z. put_else r.age i (g + 1) j ne z + busy (put_else r.spot i free j ne z))))
          (put_field (λ (z : PassView). z.claims) r.pass p v' (ap (λ (z : PassView). z.claims) (sym pass_is))) (put_field (λ (z : PassView). z.found) r.pass p v' (ap (λ (z : PassView). z.found) (sym pass_is))) r.counts)),
      (λ z. (OfPass (without_claim (v_of z)), Rattle.atomic_table.specs.Table.rest (has.1 z))),
    )

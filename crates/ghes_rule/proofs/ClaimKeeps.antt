-- A pass tries a slot.
use Rattle.std.proofs.Common.{◌≡◌, ◌≢◌, ◌⊎◌, ℕ, zero, suc, ◌+◌, ◌-◌, ◌*◌, ◌<◌, ◌≤◌, eqb, Bool, true, false, List, [], ◌∷◌, ◌++◌, length, map, get_or, set, sym, refl, ap, ◌∙◌, subst, arith, inl, inr, ⊎_elim, Option, Some, None, length-set, length-append, take, drop}
use mathlib.Core.Logic.{dite}
use mathlib.Core.Option.{some, none, some-injective, some-ne-none}
use mathlib.Core.Option as maybe
use native.Mathlib.Decide.{ℕ_discrete, dec_le}
use lib.ListN.{get_elem?}
use Rattle.std.proofs.lemmas.List.{take-append-drop}
use Rattle.atomic_table.specs.Table.{State}
use Rattle.ghes_rule.specs.declared.views.Cell.{Cell}
use Rattle.ghes_rule.specs.declared.views.Turn.{Turn}
use Rattle.ghes_rule.specs.declared.views.Pushed.{Pushed}
use Rattle.ghes_rule.specs.declared.views.Stage.{Stage}
use Rattle.ghes_rule.specs.declared.views.Stage.TheVariants.{Idle, Holding, Swapped}
use Rattle.ghes_rule.specs.declared.views.Hand.{Hand}
use Rattle.ghes_rule.specs.declared.views.Hand.TheVariants.{Bare, Full}
use Rattle.ghes_rule.specs.declared.views.PassView.{PassView}
use Rattle.ghes_rule.specs.declared.views.WorkView.{WorkView}
use Rattle.ghes_rule.specs.declared.views.View.{View}
use Rattle.ghes_rule.specs.declared.views.View.TheVariants.{OfPass, OfWork, Spent}
use Rattle.ghes_rule.specs.Kept.{Spot, free, with_pass, waits, at_desk, busy, In, when, sum_to, count, count_in, of_pass, turn, IsBelow, Slots, InStage, PassOk, Counts, Linked, Chain, InHand, DeskOk, Knows, Seats, Held, Panic, IsKept}
use Rattle.ghes_rule.specs.Moves.{view_or, view_at, all_back, in_hand, ended_of, Settled}
use Rattle.atomic_table.specs.Table.{Me, Act, keeps, Allows, Splits, Joins, step}
use Rattle.atomic_table.proofs.Lists.{at_set, set_here, set_else, set_again, at_snoc, at_longer, at_last}
use lib.Seq.{set-get_or}
use Rattle.ghes_rule.specs.Moves.{Sat, pass_of, work_of, first_back, joined, join_views, without_first, let_out, split_left, split_right, ended_if, tab, told_settled}
use Rattle.std.proofs.Common.{◌/◌, ◌%◌, bit_or, vec_capacity, get_or-set_same, get_or-set_other}
use Rattle.std.proofs.lemmas.Nat.{or_disjoint}
use Rattle.atomic_table.specs.Table.{takes, gives, stepped}
use Rattle.ghes_rule.specs.Kept.{pushed_slot}
use Rattle.ghes_rule.specs.Kept
use Rattle.ghes_rule.specs.Moves.{with_claim, with_found, without_claim, HasEmpty, tried, freed}
use Rattle.std.proofs.lemmas.Nat.{and_mask}
use Rattle.std.specs.Int.Bits.{or_add_and}
use Rattle.std.proofs.Common.{◌^◌}
use Rattle.ghes_rule.proofs.Puts.{sum_same, when_same, when_other, put, put_here, put_at, put_else, put_all, put_field, sum_put, count_snoc, in_snoc, in_last, in_longer}
use Rattle.ghes_rule.proofs.Frames.{pass_known, panic_same}
use Rattle.ghes_rule.proofs.Quiet.{spot_code, spots_apart, not_held, not_swapped}
use Rattle.ghes_rule.proofs.PassSteps.{pass_moves, one_holder}
use Rattle.ghes_rule.proofs.PassLemmas.{or_one, few_claims, pass_looks, free_or_busy, busy_word}

module _ {room n : ℕ} {s : State (Option Cell) View} (r : IsKept room n s) where
  counts_found : (p i g : ℕ) (v : PassView) → p < n → i < r.k → r.pass p ≡ v → g < r.age i + busy (r.spot i) → Counts r.k n (λ j. r.age j + busy (r.spot j)) (put r.pass p (with_found v i g))
  counts_found p i g v l inside is low = let v' : PassView = with_found v i g in
      let same : (q : ℕ) → (put r.pass p v' q).claims ≡ (r.pass q).claims = put_field (λ (z : PassView). z.claims) r.pass p v' (ap (λ (z : PassView). z.claims) (sym is)) in
      record {
        few = r.counts.few;
        counted = λ j m. sum_same n (λ q. count j (put r.pass p v' q).claims) (λ q. count j (r.pass q).claims) (λ q _. ap (count j) (same q)) ∙ r.counts.counted j m;
        each = λ j h m b. let o = r.counts.each j h m b in (o.0, o.1, subst (In (turn j h)) (sym (same o.0)) o.2);
        bounded = λ q c m h. r.counts.bounded q c m (subst (In c) (same q) h);
        found = λ q c m h. dite (ℕ_discrete q p)
            (λ e. ⊎_elim
            (λ old. let o = r.counts.found p c l (subst (λ (z : PassView). In c z.found) (sym is) old) in (o.0, o.1, subst (In c) (sym (same o.0)) o.2))
            (λ new. let o = r.counts.each i g inside low in (o.0, o.1, subst (In c) (sym (same o.0)) (subst (λ z. In z (r.pass o.0).claims) (sym new) o.2)))
            (in_snoc c v.found (turn i g) (subst (λ (z : PassView). In c z.found) (put_at r.pass p v' q e) h)))
            (λ ne. let o = r.counts.found q c m (subst (λ (z : PassView). In c z.found) (put_else r.pass p v' q ne) h) in (o.0, o.1, subst (In c) (sym (same o.0)) o.2));
        short = λ q m. subst (λ cs. length cs ≤ 4294967296) (sym (same q)) (r.counts.short q m);
      }

  counts_claim : (p i g : ℕ) (v : PassView) → p < n → i < r.k → r.pass p ≡ v → g ≡ r.age i → r.spot i ≡ free → length v.claims < 4294967296
      → Counts r.k n (λ j. put r.age i g j + busy (put r.spot i (with_pass p) j)) (put r.pass p (with_claim v i g))
  counts_claim p i g v l inside is g_is was short = let v' : PassView = with_claim v i g in let cs : List Turn = v.claims in
      let none : busy (r.spot i) ≡ 0 = ap busy was in
      let total : ℕ → ℕ = λ j. put r.age i g j + busy (put r.spot i (with_pass p) j) in
      let total_here : (j : ℕ) → j ≡ i → total j ≡ r.age i + 1 = λ j e. (λ z. put_at r.age i g j e z + busy (put_at r.spot i (with_pass p) j e z)) ∙ (let a : g + 1 ≡ r.age i + 1 = omega arith in a) in
      let total_else : (j : ℕ) → j ≢ i → total j ≡ r.age j + busy (r.spot j) = λ j ne. (λ z. put_else r.age i g j ne z + busy (put_else r.spot i (with_pass p) j ne z)) in
      let more : (c : Turn) (q : ℕ) → In c (r.pass q).claims → In c (put r.pass p v' q).claims = λ c q h. dite (ℕ_discrete q p)
      (λ e. subst (λ (z : PassView). In c z.claims) (sym (put_at r.pass p v' q e)) (in_longer c cs (turn i g ∷ []) (subst (λ (z : PassView). In c z.claims) (ap r.pass e ∙ is) h)))
      (λ ne. subst (λ (z : PassView). In c z.claims) (sym (put_else r.pass p v' q ne)) h) in
      let found_is : (q : ℕ) → (put r.pass p v' q).found ≡ (r.pass q).found = put_field (λ (z : PassView). z.found) r.pass p v' (ap (λ (z : PassView). z.found) (sym is)) in
      record {
        few = r.counts.few;
        counted = λ j m. sum_put n p (when (eqb j i)) (λ q. count j (r.pass q).claims) (λ q. count j (put r.pass p v' q).claims) l
            (ap (λ (z : PassView). count j z.claims) (put_here r.pass p v') ∙ (count_snoc j cs (turn i g) ∙ ap (λ (z : PassView). count j z.claims + when (eqb j i)) (sym is)))
            (λ q ne. ap (λ (z : PassView). count j z.claims) (put_else r.pass p v' q ne))
            ∙ dite (ℕ_discrete j i)
            (λ e. let a = r.counts.counted j m in let b = Rattle.ghes_rule.proofs.Puts.when_same j i e in let c = total_here j e in let d = ap (λ z. r.age z + busy (r.spot z)) e in let x : sum_to n (λ q. count j (r.pass q).claims) + when (eqb j i) ≡ r.age i + 1 = omega arith in x ∙ sym c)
            (λ ne. let a = r.counts.counted j m in let b = Rattle.ghes_rule.proofs.Puts.when_other j i ne in let x : sum_to n (λ q. count j (r.pass q).claims) + when (eqb j i) ≡ r.age j + busy (r.spot j) = omega arith in x ∙ sym (total_else j ne));
        each = λ j h m b. dite (ℕ_discrete j i)
            (λ e. let low : h < r.age i + 1 = subst (λ z. h < z) (total_here j e) b in dite (ℕ_discrete h g)
            (λ d. (p, l, subst (λ (z : PassView). In (turn j h) z.claims) (sym (put_here r.pass p v')) (subst (λ (z : ℕ × ℕ). In (turn z.0 z.1) (cs ++ turn i g ∷ [])) (λ z. (sym e z, sym d z)) (in_last cs (turn i g)))))
            (λ ne. let o = r.counts.each j h m (let q = ap (λ z. r.age z + busy (r.spot z)) e in omega arith) in (o.0, o.1, more (turn j h) o.0 o.2)))
            (λ ne. let o = r.counts.each j h m (subst (λ z. h < z) (total_else j ne) b) in (o.0, o.1, more (turn j h) o.0 o.2));
        bounded = λ q c m h. let keep : (c.slot < r.k) × (c.turn < r.age c.slot + busy (r.spot c.slot)) → (c.slot < r.k) × (c.turn < total c.slot) = λ o. (
          o.0,
          dite (ℕ_discrete c.slot i)
              (λ e. let a = o.1 in let d = total_here c.slot e in let b = ap (λ z. r.age z + busy (r.spot z)) e in subst (λ z. c.turn < z) (sym d) (omega arith)) (λ ne. subst (λ z. c.turn < z) (sym (total_else c.slot ne)) o.1),
        ) in
            dite (ℕ_discrete q p)
            (λ e. ⊎_elim (λ old. keep (r.counts.bounded p c l (subst (λ (z : PassView). In c z.claims) (sym is) old)))
            (λ new. (subst (λ (z : Turn). z.slot < r.k) (sym new) inside, subst (λ (z : Turn). z.turn < total z.slot) (sym new) (subst (λ z. g < z) (sym (total_here i refl)) (omega arith))))
            (in_snoc c cs (turn i g) (subst (λ (z : PassView). In c z.claims) (put_at r.pass p v' q e) h)))
            (λ ne. keep (r.counts.bounded q c m (subst (λ (z : PassView). In c z.claims) (put_else r.pass p v' q ne) h)));
        found = λ q c m h. let o = r.counts.found q c m (subst (In c) (found_is q) h) in (o.0, o.1, more c o.0 o.2);
        short = λ q m. put_all (λ q (z : PassView). length z.claims ≤ 4294967296) r.pass p v' q (λ _. let a = length-append cs (turn i g ∷ []) in omega arith) (λ _. r.counts.short q m);
      }

pub tries : (room n slots id : ℕ) (me : Sat) (v : PassView) (i : ℕ) → me.0 ≡ OfPass v → me.1 ≡ [] → v.stage ≡ Idle → length v.claims < 4294967296 → i < slots
    → Allows (IsKept room n) slots id me i (λ x. bit_or x 1) (tried (step slots i 1 0 none) me)
tries room n slots id me v i is bare idle short near s r deep at _ =
    let at' : get_elem? s.views id ≡ some (OfPass v) = at ∙ ap some is in let known = pass_known r.seats id v at' in let p : ℕ = v.number in let l : p < n = known.0 in let pass_is : r.pass p ≡ v = known.2 in
    let inside : i < r.k = (let d = r.slots.deep in omega arith) in let place = r.slots.each i inside in let x : ℕ = get_or s.words i 0 in let few = few_claims r i inside in
    let v_of : v ≡ pass_of me.0 = ap pass_of (sym is) in
    ⊎_elim
    (λ (was : r.spot i ≡ free). let here = subst (Kept.At r.k room s.words s.homes r.log r.from (r.age i) i) was place in let c : Cell = here.2.0 in let g : ℕ = x / 2 in let v' : PassView = with_claim v i g in
    let g_is : g ≡ r.age i = (let h = here.0 in omega arith) in let w_is : bit_or x 1 ≡ 2 * g + 1 = (let o = or_one x in let h = here.0 in omega arith) in
    let rm : room ≡ (pass_of me.0).room = sym (r.passes p l).room_is ∙ (ap (λ (z : PassView). z.room) pass_is ∙ ap (λ (z : PassView). z.room) v_of) in (
      OfPass v',
      takes i (Some c),
      here.2.1,
      pass_moves r id v v' i (bit_or x 1) g (set s.homes i none) (with_pass p) at' inside refl refl refl refl (refl, refl) (let q = ap spot_code was in omega arith) (omega arith) (omega arith) (length-set s.homes i none) (λ j ne. set_else s.homes i j none ne)
          (get_or-set_same s.words i (bit_or x 1) 0 (let wd = r.slots.wide in omega arith) ∙ w_is, get_or-set_other s.words i (r.k + i) (bit_or x 1) 0 (λ e. omega arith) ∙ here.1, set_here s.homes i none (let dp = r.slots.deep in omega arith))
          (inside, put_here r.spot i (with_pass p), put_here r.age i g)
          (λ q ne e. spots_apart free (with_pass q) (λ h. omega arith) (sym was ∙ e))
          (λ q e. (sym (one_holder p q e), refl))
          (λ j h ne e. not_held v.stage j h idle e) (λ j old e. not_swapped v.stage j old idle e)
          (counts_claim r p i g v l inside pass_is g_is was short),
      (let h = here.0 in omega arith, (λ even. (ap (λ z. OfPass (with_claim z i g)) v_of, (c, ap (λ cs. (i, Some c) ∷ cs) bare, here.2.2, subst (λ z. z ≤ c.packet.bytes.room) rm here.2.3))), λ odd. absurd (odd (let h = here.0 in omega arith))),
    ))
    (λ (one : busy (r.spot i) ≡ 1). let h : x ≡ 2 * r.age i + 1 = busy_word r.k room s.words s.homes r.log r.from (r.age i) i (r.spot i) one place in let g : ℕ = x / 2 in let v' : PassView = with_found v i g in
    let g_is : g ≡ r.age i = omega arith in let w_is : bit_or x 1 ≡ x = (let o = or_one x in omega arith) in (
      OfPass v',
      keeps,
      tt,
      subst (λ y. IsKept room n record { words = set s.words i y; homes = s.homes; views = set s.views id (OfPass v') }) (sym w_is)
          (pass_looks r id i v v' at' refl refl refl refl refl (counts_found r p i g v l inside pass_is (omega arith))
          (panic_same refl (put_field (λ (z : PassView). z.fatal) r.pass p v' (ap (λ (z : PassView). z.fatal) (sym pass_is))) (put_field (λ (z : PassView). z.loads) r.pass p v' (ap (λ (z : PassView). z.loads) (sym pass_is))) refl r.panic)),
      (omega arith, (λ even. absurd (omega arith)), λ _. (ap (λ z. (OfPass (with_found z i g), me.1)) v_of, let a = (r.passes p l).since i inside in let b = ap (λ (z : PassView). get_or z.since i 0) (pass_is ∙ v_of) in omega arith)),
    ))
    (free_or_busy (r.spot i))

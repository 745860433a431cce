-- A pass stores the link of its slot.
use Rattle.std.proofs.Common.{◌≡◌, ◌≢◌, ◌⊎◌, ℕ, zero, suc, ◌+◌, ◌-◌, ◌*◌, ◌<◌, ◌≤◌, eqb, Bool, true, false, List, [], ◌∷◌, ◌++◌, length, map, get_or, set, sym, refl, ap, ◌∙◌, subst, arith, inl, inr, ⊎_elim, Option, Some, None, length-set, length-append, take, drop}
use mathlib.Core.Logic.{dite}
use mathlib.Core.Option.{some, none, some-injective, some-ne-none}
use mathlib.Core.Option as maybe
use native.Mathlib.Decide.{ℕ_discrete, dec_le}
use lib.ListN.{get_elem?}
use Rattle.std.proofs.lemmas.List.{take-append-drop}
use Rattle.atomic_table.specs.Table.{State}
use Rattle.ghes_rule.specs.declared.views.Cell.{Cell}
use Rattle.ghes_rule.specs.declared.views.Turn.{Turn}
use Rattle.ghes_rule.specs.declared.views.Pushed.{Pushed}
use Rattle.ghes_rule.specs.declared.views.Stage.{Stage}
use Rattle.ghes_rule.specs.declared.views.Stage.TheVariants.{Idle, Holding, Swapped}
use Rattle.ghes_rule.specs.declared.views.Hand.{Hand}
use Rattle.ghes_rule.specs.declared.views.Hand.TheVariants.{Bare, Full}
use Rattle.ghes_rule.specs.declared.views.PassView.{PassView}
use Rattle.ghes_rule.specs.declared.views.WorkView.{WorkView}
use Rattle.ghes_rule.specs.declared.views.View.{View}
use Rattle.ghes_rule.specs.declared.views.View.TheVariants.{OfPass, OfWork, Spent}
use Rattle.ghes_rule.specs.Kept.{Spot, free, with_pass, waits, at_desk, busy, In, when, sum_to, count, count_in, of_pass, turn, IsBelow, Slots, InStage, PassOk, Counts, Linked, Chain, InHand, DeskOk, Knows, Seats, Held, Panic, IsKept}
use Rattle.ghes_rule.specs.Moves.{view_or, view_at, all_back, in_hand, ended_of, Settled}
use Rattle.atomic_table.specs.Table.{Me, Act, keeps, Allows, Splits, Joins, step}
use Rattle.atomic_table.proofs.Lists.{at_set, set_here, set_else, set_again, at_snoc, at_longer, at_last}
use lib.Seq.{set-get_or}
use Rattle.ghes_rule.specs.Moves.{Sat, pass_of, work_of, first_back, joined, join_views, without_first, let_out, split_left, split_right, ended_if, tab, told_settled}
use Rattle.std.proofs.Common.{◌/◌, ◌%◌, bit_or, vec_capacity, get_or-set_same, get_or-set_other}
use Rattle.std.proofs.lemmas.Nat.{or_disjoint}
use Rattle.atomic_table.specs.Table.{takes, gives, stepped}
use Rattle.ghes_rule.specs.Kept.{pushed_slot}
use Rattle.ghes_rule.specs.Kept
use Rattle.ghes_rule.specs.Moves.{with_claim, with_found, without_claim, HasEmpty, tried, freed}
use Rattle.std.proofs.lemmas.List.{take-append-le}
use Rattle.ghes_rule.specs.Moves.{slot_of, turn_of, pushed_of, push_of, with_push, hung, linked_up}
use Rattle.ghes_rule.proofs.Puts.{one_at, put, put_at, put_else, put_field}
use Rattle.ghes_rule.proofs.Frames.{pass_known, seats_pass, counts_same, panic_same}
use Rattle.ghes_rule.proofs.Quiet.{spot_code, not_both, one_wait, waits_at}
use Rattle.ghes_rule.proofs.PassSteps.{slot_or}
use Rattle.ghes_rule.proofs.Keeps.{longer_self, at_keep, stage_keep}

abbrev pub below_or : Stage → ℕ
below_or Idle = 0
below_or (Holding i g) = 0
below_or (Swapped i old) = old

module _ {room n : ℕ} {s : State (Option Cell) View} (r : IsKept room n s) where
  link_kept : (id : ℕ) (v v' : PassView) (i old : ℕ) → get_elem? s.views id ≡ some (OfPass v) → v.stage ≡ Swapped i old → v'.number ≡ v.number → v'.room ≡ v.room → v'.since ≡ v.since → v'.claims ≡ v.claims → v'.found ≡ v.found → v'.stage ≡ Idle → v'.mine ≡ v.mine → (v'.fatal ≡ v.fatal) × (v'.loads ≡ v.loads)
      → IsKept room n record { words = set s.words (r.k + i) (old + 1); homes = s.homes; views = set s.views id (OfPass v') }
  link_kept id v v' i old at swapped num rm sn cl fd st mn pn =
      let k : ℕ = r.k in let known = pass_known r.seats id v at in let p : ℕ = v.number in let l : p < n = known.0 in let is : r.pass p ≡ v = known.2 in let ok = r.passes p l in
      let stage_is : (r.pass p).stage ≡ Swapped i old = ap (λ (z : PassView). z.stage) is ∙ swapped in
      let staged = subst (InStage k s.words r.log r.age r.spot p) stage_is ok.stage in let inside : i < k = staged.0 in let u = staged.1 in let t₀ : ℕ = u.0 in let e : Pushed = u.1 in let was : r.spot i ≡ waits t₀ = u.2 in let there : get_elem? r.log t₀ ≡ some e = u.3 in
      let wide = r.slots.wide in let marks = r.chain.marks in let m₂ = marks.2 in let words' : List ℕ = set s.words (k + i) (old + 1) in let lg = longer_self r.log in
      let link : (j : ℕ) → j ≢ i → get_or words' (k + j) 0 ≡ get_or s.words (k + j) 0 = λ j ne. get_or-set_other s.words (k + i) (k + j) (old + 1) 0 (λ z. ne (omega arith)) in
      let linked : (b t : ℕ) → r.from ≤ t → Linked k s.words r.log r.pass b t → Linked k words' r.log (put r.pass p v') b t = λ b t low h.
      dite (ℕ_discrete h.0.slot i)
      (λ z. (
        h.0,
        h.1,
        ⊎_elim
            (λ a. let here : t ≡ t₀ = one_wait t t₀ (sym (waits_at r.chain t h.0 low h.1).1 ∙ (ap r.spot z ∙ was)) in let f_is : h.0 ≡ e = one_at r.log t₀ h.0 e (subst (λ y. get_elem? r.log y ≡ some h.0) here h.1) there in
            let old_is : a.1.0 ≡ old = ap below_or (sym a.1.1 ∙ (ap (λ (y : Pushed). (r.pass y.pass).stage) f_is ∙ (ap (λ y. (r.pass y).stage) u.4 ∙ stage_is))) in
            inr (old, ap (λ y. get_or words' (k + y) 0) z ∙ get_or-set_same s.words (k + i) (old + 1) 0 (omega arith), subst (IsBelow r.log b t) old_is a.1.2))
            (λ a. absurd (let y = sym (ap (λ y. get_or s.words (k + y) 0) z) ∙ a.1 in let y' = u.5 in omega arith)) h.2,
      ))
      (λ ne. (
        h.0,
        h.1,
        ⊎_elim
            (λ a. inl (link h.0.slot ne ∙ a.0, (a.1.0, ap (λ (y : PassView). y.stage) (put_else r.pass p v' h.0.pass (λ z. ne (ap slot_or (sym a.1.1 ∙ (ap (λ y. (r.pass y).stage) z ∙ stage_is))))) ∙ a.1.1, a.1.2)))
            (λ a. inr (a.0, link h.0.slot ne ∙ a.1, a.2)) h.2,
      )) in
      record {
        k = k;
        spot = r.spot;
        age = r.age;
        pass = put r.pass p v';
        seat = r.seat;
        desk = r.desk;
        chair = r.chair;
        log = r.log;
        from = r.from;
        walk = r.walk;
        top = r.top;
        slots = record {
          wide = length-set s.words (k + i) (old + 1) ∙ wide;
          deep = r.slots.deep;
          each = λ j b. at_keep k room s.words words' s.homes s.homes r.log r.log r.from r.from (r.age j) j (r.spot j) (get_or-set_other s.words (k + i) j (old + 1) 0 (λ z. omega arith))
              (λ code. link j (λ z. code (ap (λ y. spot_code (r.spot y)) z ∙ ap spot_code was))) refl lg (λ _ _ z. z) (r.slots.each j b);
        };
        passes = λ q m. dite (ℕ_discrete q p)
            (λ z. subst (λ (y : ℕ × PassView). PassOk k words' r.log r.age r.spot y.0 room y.1) (λ d. (sym z d, sym (put_at r.pass p v' q z) d)) record {
              number = num;
              room_is = rm ∙ (ap (λ (y : PassView). y.room) (sym is) ∙ ok.room_is);
              stage = subst (InStage k words' r.log r.age r.spot p) (sym st) tt;
              mine = mn ∙ (ap (λ (y : PassView). y.mine) (sym is) ∙ ok.mine);
              since = λ j b. subst (λ xs. get_or xs j 0 ≤ r.age j) (ap (λ (y : PassView). y.since) is ∙ sym sn) (ok.since j b);
            })
            (λ ne. let o = r.passes q m in subst (λ (y : PassView). PassOk k words' r.log r.age r.spot q room y) (sym (put_else r.pass p v' q ne)) record {
              number = o.number;
              room_is = o.room_is;
              stage = stage_keep k q s.words words' r.log r.log r.age r.age r.spot r.spot (r.pass q).stage lg (λ _ _ _. (refl, refl))
                  (λ j t f b w z at_t f_pass. (refl, link j (λ y. ne (sym f_pass ∙ (ap (λ (d : Pushed). d.pass) (one_at r.log t₀ f e (subst (λ d. get_elem? r.log d ≡ some f) (one_wait t t₀ (sym w ∙ (ap r.spot y ∙ was))) at_t) there) ∙ u.4))) ∙ z)) o.stage;
              mine = o.mine;
              since = o.since;
            });
        held = λ j q b w. let h = r.held j q b w in ap (λ (y : PassView). y.stage) (put_else r.pass p v' q (λ z. not_both (r.pass q).stage j (r.age j) i old h (ap (λ y. (r.pass y).stage) z ∙ stage_is))) ∙ h;
        counts = counts_same (λ _ _. refl) (put_field (λ (y : PassView). y.claims) r.pass p v' (cl ∙ ap (λ (y : PassView). y.claims) (sym is))) (put_field (λ (y : PassView). y.found) r.pass p v' (fd ∙ ap (λ (y : PassView). y.found) (sym is))) r.counts;
        chain = record {
          marks = r.chain.marks;
          passes = r.chain.passes;
          pending = r.chain.pending;
          rest = λ t a b. linked r.from t a (r.chain.rest t a b);
          walked = λ t f a b h z. dite (ℕ_discrete f.slot i) (λ y. let d = sym (ap (λ y. get_or words' (k + y) 0) y ∙ get_or-set_same s.words (k + i) (old + 1) 0 (omega arith)) ∙ z in omega arith) (λ ne. r.chain.walked t f a b h (sym (link f.slot ne) ∙ z));
          hangs = λ t a b. linked r.top t (omega arith) (r.chain.hangs t a b);
          head = subst (IsBelow r.log r.top (length r.log)) (sym (get_or-set_other s.words (k + i) (2 * k) (old + 1) 0 (λ z. omega arith))) r.chain.head;
        };
        work = r.work;
        seats = seats_pass r.seats id v v' (λ q m. (r.passes q m).number) at num;
        panic = panic_same (get_or-set_other s.words (k + i) (2 * k + 1) (old + 1) 0 (λ z. omega arith)) (put_field (λ (y : PassView). y.fatal) r.pass p v' (pn.0 ∙ ap (λ (y : PassView). y.fatal) (sym is))) (put_field (λ (y : PassView). y.loads) r.pass p v' (pn.1 ∙ ap (λ (y : PassView). y.loads) (sym is))) refl r.panic;
      }

-- k4
pub links : (room n slots k id i old : ℕ) (me : Sat) → k ≡ slots → me.0 ≡ OfPass (pass_of me.0) → (pass_of me.0).stage ≡ Swapped i old → Allows (IsKept room n) slots id me (k + i) (λ _. old + 1) (λ _. linked_up (step slots (k + i) (old + 1) 0 none) me (old + 1))
links room n slots k id i old me same is swapped s r deep at _ =
    let v : PassView = pass_of me.0 in let at' : get_elem? s.views id ≡ some (OfPass v) = at ∙ ap some is in let k_is : k ≡ r.k = same ∙ (sym deep ∙ r.slots.deep) in let v' : PassView = without_claim v in (
      OfPass v',
      keeps,
      tt,
      subst (λ z. IsKept room n record { words = set s.words (z + i) (old + 1); homes = s.homes; views = set s.views id (OfPass v') }) (sym k_is) (link_kept r id v v' i old at' swapped refl refl refl refl refl refl refl (refl, refl)),
      refl,
    )

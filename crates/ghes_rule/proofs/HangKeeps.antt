-- A pass swaps its slot into the head.
use Rattle.std.proofs.Common.{◌≡◌, ◌≢◌, ◌⊎◌, ℕ, zero, suc, ◌+◌, ◌-◌, ◌*◌, ◌<◌, ◌≤◌, eqb, Bool, true, false, List, [], ◌∷◌, ◌++◌, length, map, get_or, set, sym, refl, ap, ◌∙◌, subst, arith, inl, inr, ⊎_elim, Option, Some, None, length-set, length-append, take, drop}
use mathlib.Core.Logic.{dite}
use mathlib.Core.Option.{some, none, some-injective, some-ne-none}
use mathlib.Core.Option as maybe
use native.Mathlib.Decide.{ℕ_discrete, dec_le}
use lib.ListN.{get_elem?}
use Rattle.std.proofs.lemmas.List.{take-append-drop}
use Rattle.atomic_table.specs.Table.{State}
use Rattle.ghes_rule.specs.declared.views.Cell.{Cell}
use Rattle.ghes_rule.specs.declared.views.Turn.{Turn}
use Rattle.ghes_rule.specs.declared.views.Pushed.{Pushed}
use Rattle.ghes_rule.specs.declared.views.Stage.{Stage}
use Rattle.ghes_rule.specs.declared.views.Stage.TheVariants.{Idle, Holding, Swapped}
use Rattle.ghes_rule.specs.declared.views.Hand.{Hand}
use Rattle.ghes_rule.specs.declared.views.Hand.TheVariants.{Bare, Full}
use Rattle.ghes_rule.specs.declared.views.PassView.{PassView}
use Rattle.ghes_rule.specs.declared.views.WorkView.{WorkView}
use Rattle.ghes_rule.specs.declared.views.View.{View}
use Rattle.ghes_rule.specs.declared.views.View.TheVariants.{OfPass, OfWork, Spent}
use Rattle.ghes_rule.specs.Kept.{Spot, free, with_pass, waits, at_desk, busy, In, when, sum_to, count, count_in, of_pass, turn, IsBelow, Slots, InStage, PassOk, Counts, Linked, Chain, InHand, DeskOk, Knows, Seats, Held, Panic, IsKept}
use Rattle.ghes_rule.specs.Moves.{view_or, view_at, all_back, in_hand, ended_of, Settled}
use Rattle.atomic_table.specs.Table.{Me, Act, keeps, Allows, Splits, Joins, step}
use Rattle.atomic_table.proofs.Lists.{at_set, set_here, set_else, set_again, at_snoc, at_longer, at_last}
use lib.Seq.{set-get_or}
use Rattle.ghes_rule.specs.Moves.{Sat, pass_of, work_of, first_back, joined, join_views, without_first, let_out, split_left, split_right, ended_if, tab, told_settled}
use Rattle.std.proofs.Common.{◌/◌, ◌%◌, bit_or, vec_capacity, get_or-set_same, get_or-set_other}
use Rattle.std.proofs.lemmas.Nat.{or_disjoint}
use Rattle.atomic_table.specs.Table.{takes, gives, stepped}
use Rattle.ghes_rule.specs.Kept.{pushed_slot}
use Rattle.ghes_rule.specs.Kept
use Rattle.ghes_rule.specs.Moves.{with_claim, with_found, without_claim, HasEmpty, tried, freed}
use Rattle.std.proofs.lemmas.List.{take-append-le}
use Rattle.ghes_rule.specs.Moves.{slot_of, turn_of, pushed_of, push_of, with_push, hung, linked_up}
use Rattle.ghes_rule.proofs.Puts.{one_at, put, put_here, put_at, put_else, put_field, at_grown, of_pass_mine, of_pass_other}
use Rattle.ghes_rule.proofs.Frames.{pass_known, seats_pass, counts_same, panic_same}
use Rattle.ghes_rule.proofs.Quiet.{spot_code, spots_apart, not_both, waits_at}
use Rattle.ghes_rule.proofs.PassSteps.{one_holder, slot_or}
use Rattle.ghes_rule.proofs.Keeps.{longer_snoc, at_keep, stage_keep, below_keep, linked_keep, hand_keep, take_drop_longer}
use Rattle.ghes_rule.proofs.DeskLemmas.{below_le}

module _ {room n : ℕ} {s : State (Option Cell) View} (r : IsKept room n s) where
  hang_kept : (id : ℕ) (v v' : PassView) (i g x : ℕ) (c : Cell) → get_elem? s.views id ≡ some (OfPass v) → v.stage ≡ Holding i g → x ≡ get_or s.words (2 * r.k) 0 → c.pass ≡ v.number → c.turn ≡ g → length c.packet.bytes.bytes ≤ room → room ≤ c.packet.bytes.room
      → v'.number ≡ v.number → v'.room ≡ v.room → v'.since ≡ v.since → v'.claims ≡ v.claims → v'.found ≡ v.found → v'.stage ≡ Swapped i x → v'.mine ≡ v.mine ++ pushed_of v.number i g c ∷ [] → (v'.fatal ≡ v.fatal) × (v'.loads ≡ v.loads)
      → IsKept room n record { words = set s.words (2 * r.k) (i + 1); homes = set s.homes i (some (Some c)); views = set s.views id (OfPass v') }
  hang_kept id v v' i g x c at holds x_is c_pass c_turn short fits num rm sn cl fd st mn pn =
      let k : ℕ = r.k in let known = pass_known r.seats id v at in let p : ℕ = v.number in let l : p < n = known.0 in let is : r.pass p ≡ v = known.2 in let ok = r.passes p l in
      let staged = subst (InStage k s.words r.log r.age r.spot p) (ap (λ (z : PassView). z.stage) is ∙ holds) ok.stage in
      let inside : i < k = staged.0 in let was : r.spot i ≡ with_pass p = staged.1 in let age_is : r.age i ≡ g = staged.2 in let wide = r.slots.wide in let marks = r.chain.marks in let m₂ = marks.2 in
      let e : Pushed = pushed_of p i g c in let log' : List Pushed = r.log ++ e ∷ [] in let last : ℕ = length r.log in let words' : List ℕ = set s.words (2 * k) (i + 1) in let spot' : ℕ → Spot = put r.spot i (waits last) in
      let lg = longer_snoc r.log e in let long : length log' ≡ last + 1 = length-append r.log (e ∷ []) in let new_at : get_elem? log' last ≡ some e = at_last r.log e last refl in
      let place = subst (Kept.At k room s.words s.homes r.log r.from (r.age i) i) was (r.slots.each i inside) in
      let word : (j : ℕ) → j < k → get_or words' j 0 ≡ get_or s.words j 0 = λ j b. get_or-set_other s.words (2 * k) j (i + 1) 0 (λ z. omega arith) in
      let link : (j : ℕ) → j < k → get_or words' (k + j) 0 ≡ get_or s.words (k + j) 0 = λ j b. get_or-set_other s.words (2 * k) (k + j) (i + 1) 0 (λ z. omega arith) in
      let else_spot : (j : ℕ) → j ≢ i → spot' j ≡ r.spot j = λ j ne. put_else r.spot i (waits last) j ne in
      let apart : (j : ℕ) (Q : Spot) → spot_code Q ≢ 1 → r.spot j ≡ Q → j ≢ i = λ j Q d e z. d (sym (ap spot_code e) ∙ (ap (λ y. spot_code (r.spot y)) z ∙ ap spot_code was)) in
      let not_here : (q : ℕ) (old j : ℕ) → (r.pass q).stage ≡ Swapped j old → q ≢ p = λ q old j sw z. not_both v.stage i g j old holds (ap (λ (y : PassView). y.stage) (sym is) ∙ (ap (λ y. (r.pass y).stage) (sym z) ∙ sw)) in
      let linked : (b t : ℕ) → r.from ≤ t → Linked k s.words r.log r.pass b t → Linked k words' log' (put r.pass p v') b t = λ b t low. linked_keep k s.words words' r.log log' r.pass (put r.pass p v') b t lg
      (λ f h. link f.slot (waits_at r.chain t f low h).0) (λ f old h sw. ap (λ (y : PassView). y.stage) (put_else r.pass p v' f.pass (not_here f.pass old f.slot sw))) in
      record {
        k = k;
        spot = spot';
        age = r.age;
        pass = put r.pass p v';
        seat = r.seat;
        desk = r.desk;
        chair = r.chair;
        log = log';
        from = r.from;
        walk = r.walk;
        top = r.top;
        slots = record {
          wide = length-set s.words (2 * k) (i + 1) ∙ wide;
          deep = length-set s.homes i (some (Some c)) ∙ r.slots.deep;
          each = λ j b. dite (ℕ_discrete j i)
              (λ q. subst (λ (z : ℕ × Spot). Kept.At k room words' (set s.homes i (some (Some c))) log' r.from (r.age z.0) z.0 z.1) (λ d. (sym q d, sym (put_at r.spot i (waits last) j q) d))
              (word i inside ∙ place.0, omega arith, omega arith, (e, c, new_at, refl, sym age_is, set_here s.homes i (some (Some c)) (let dp = r.slots.deep in omega arith), (c_pass, c_turn, refl), fits, short)))
              (λ ne. subst (Kept.At k room words' (set s.homes i (some (Some c))) log' r.from (r.age j) j) (sym (else_spot j ne))
              (at_keep k room s.words words' s.homes (set s.homes i (some (Some c))) r.log log' r.from r.from (r.age j) j (r.spot j) (word j b) (λ _. link j b) (set_else s.homes i j (some (Some c)) ne) lg (λ _ _ z. z) (r.slots.each j b)));
        };
        passes = λ q m. dite (ℕ_discrete q p)
            (λ z. subst (λ (y : ℕ × PassView). PassOk k words' log' r.age spot' y.0 room y.1) (λ d. (sym z d, sym (put_at r.pass p v' q z) d)) record {
              number = num;
              room_is = rm ∙ (ap (λ (y : PassView). y.room) (sym is) ∙ ok.room_is);
              stage = subst (InStage k words' log' r.age spot' p) (sym st) (inside, (last, e, put_here r.spot i (waits last), new_at, refl, link i inside ∙ place.1));
              mine = mn ∙ (ap (λ y. y ++ e ∷ []) (ap (λ (y : PassView). y.mine) (sym is) ∙ ok.mine) ∙ sym (of_pass_mine p r.log e refl));
              since = λ j b. subst (λ xs. get_or xs j 0 ≤ r.age j) (ap (λ (y : PassView). y.since) is ∙ sym sn) (ok.since j b);
            })
            (λ ne. let o = r.passes q m in subst (λ (y : PassView). PassOk k words' log' r.age spot' q room y) (sym (put_else r.pass p v' q ne)) record {
              number = o.number;
              room_is = o.room_is;
              stage = stage_keep k q s.words words' r.log log' r.age r.age r.spot spot' (r.pass q).stage lg
                  (λ j _ w. (else_spot j (λ z. ne (one_holder q p (sym w ∙ (ap r.spot z ∙ was)))), refl))
                  (λ j t f b w z _ _. (else_spot j (apart j (waits t) (λ y. omega arith) w), link j b ∙ z)) o.stage;
              mine = o.mine ∙ sym (of_pass_other q r.log e (λ z. ne (sym z)));
              since = o.since;
            });
        held = λ j q b w. let ne : j ≢ i = λ z. spots_apart (waits last) (with_pass q) (λ y. omega arith) (sym (put_at r.spot i (waits last) j z) ∙ w) in let h = r.held j q b (sym (else_spot j ne) ∙ w) in
            ap (λ (y : PassView). y.stage) (put_else r.pass p v' q (λ z. ne (ap slot_or (sym h ∙ (ap (λ y. (r.pass y).stage) z ∙ (ap (λ (y : PassView). y.stage) is ∙ holds)))))) ∙ h;
        counts = counts_same (λ j _. ap (λ z. r.age j + z) (dite (ℕ_discrete j i) (λ z. ap busy (put_at r.spot i (waits last) j z) ∙ (sym (ap busy was) ∙ ap (λ y. busy (r.spot y)) (sym z))) (λ ne. ap busy (else_spot j ne))))
            (put_field (λ (y : PassView). y.claims) r.pass p v' (cl ∙ ap (λ (y : PassView). y.claims) (sym is))) (put_field (λ (y : PassView). y.found) r.pass p v' (fd ∙ ap (λ (y : PassView). y.found) (sym is))) r.counts;
        chain = record {
          marks = (marks.0, marks.1, omega arith);
          passes = λ t f h. ⊎_elim (λ a. r.chain.passes t f a) (λ (a : (t ≡ last) × (e ≡ f)). subst (λ (y : Pushed). y.pass < n) a.1 l) (at_grown r.log e f t h);
          pending = λ t a b. dite (ℕ_discrete t last) (λ z. (e, ap (get_elem? log') z ∙ new_at, inside, put_here r.spot i (waits last) ∙ ap waits (sym z)))
              (λ ne. let o = r.chain.pending t a (omega arith) in (o.0, lg.1 t o.0 o.1, o.2, else_spot o.0.slot (apart o.0.slot (waits t) (λ y. omega arith) o.3) ∙ o.3));
          rest = λ t a b. linked r.from t a (r.chain.rest t a b);
          walked = λ t f a b h z. let o = r.chain.pending t (omega arith) (omega arith) in let same : o.0 ≡ f = one_at log' t o.0 f (lg.1 t o.0 o.1) h in
              r.chain.walked t f a b (subst (λ y. get_elem? r.log t ≡ some y) same o.1) (sym (link f.slot (subst (λ (y : Pushed). y.slot < k) same o.2)) ∙ z);
          hangs = λ t a b. dite (ℕ_discrete t last)
              (λ z. subst (Linked k words' log' (put r.pass p v') r.top) (sym z) (e, new_at, inl (link i inside ∙ place.1, (x, ap (λ (y : PassView). y.stage) (put_here r.pass p v') ∙ st, below_keep r.log log' r.top last x lg (subst (IsBelow r.log r.top last) (sym x_is) r.chain.head)))))
              (λ ne. linked r.top t (omega arith) (r.chain.hangs t a (omega arith)));
          head = inr (last, e, long, marks.2, new_at, get_or-set_same s.words (2 * k) (i + 1) 0 (omega arith));
        };
        work = record {
          room_is = r.work.room_is;
          cursor = below_keep r.log log' r.from r.walk r.desk.cursor lg r.work.cursor;
          walked = let t = r.work.walked in let sum = t.1 in (t.0, t.1, t.2 ∙ ap (map pushed_slot) (sym (take_drop_longer t.0 r.walk r.log e (omega arith))));
          taken = r.work.taken ∙ sym (take-append-le r.from r.log (e ∷ []) (omega arith));
          hand = hand_keep k r.age r.age r.spot spot' r.desk.held (λ j w. (else_spot j (apart j at_desk (λ y. omega arith) w), refl)) r.work.hand;
          hand_end = r.work.hand_end;
          desk = λ j b w. r.work.desk j b (sym (else_spot j (λ z. spots_apart (waits last) at_desk (λ y. omega arith) (sym (put_at r.spot i (waits last) j z) ∙ w))) ∙ w);
          holder = λ j q b w. r.work.holder j q b (sym (else_spot j (λ z. spots_apart (waits last) (with_pass q) (λ y. omega arith) (sym (put_at r.spot i (waits last) j z) ∙ w))) ∙ w);
          as_long = r.work.as_long;
          ended = r.work.ended;
          all_ended = r.work.all_ended;
        };
        seats = seats_pass r.seats id v v' (λ q m. (r.passes q m).number) at num;
        panic = panic_same (get_or-set_other s.words (2 * k) (2 * k + 1) (i + 1) 0 (λ z. omega arith)) (put_field (λ (y : PassView). y.fatal) r.pass p v' (pn.0 ∙ ap (λ (y : PassView). y.fatal) (sym is))) (put_field (λ (y : PassView). y.loads) r.pass p v' (pn.1 ∙ ap (λ (y : PassView). y.loads) (sym is))) refl r.panic;
      }

-- k3
pub hangs : (room n slots k id i g : ℕ) (me : Sat) (c : Cell) → k ≡ slots → me.0 ≡ OfPass (pass_of me.0) → (pass_of me.0).stage ≡ Holding i g → me.1 ≡ (i, Some c) ∷ [] → c.pass ≡ (pass_of me.0).number → c.turn ≡ g → length c.packet.bytes.bytes ≤ (pass_of me.0).room → (pass_of me.0).room ≤ c.packet.bytes.room
    → Allows (IsKept room n) slots id me (2 * k) (λ _. i + 1) (hung (step slots (2 * k) (i + 1) 0 none) me)
hangs room n slots k id i g me c same is holds has owner turn short fits s r deep at _ =
    let v : PassView = pass_of me.0 in let at' : get_elem? s.views id ≡ some (OfPass v) = at ∙ ap some is in let known = pass_known r.seats id v at' in
    let k_is : k ≡ r.k = same ∙ (sym deep ∙ r.slots.deep) in let x : ℕ = get_or s.words (2 * k) 0 in let x_is : x ≡ get_or s.words (2 * r.k) 0 = ap (λ z. get_or s.words (2 * z) 0) k_is in
    let rm : v.room ≡ room = ap (λ (z : PassView). z.room) (sym known.2) ∙ (r.passes v.number known.0).room_is in
    let e_is : push_of v me.1 ≡ pushed_of v.number i g c = ap (push_of v) has ∙ ap (λ h. pushed_of v.number i h c) (ap turn_of holds) in let v' : PassView = with_push v x (push_of v me.1) in (
      OfPass v',
      gives,
      tt,
      subst (λ (z : ℕ × List (ℕ × Option Cell)). IsKept room n record { words = set s.words (2 * z.0) (i + 1); homes = Rattle.atomic_table.specs.Table.put_back s.homes z.1; views = set s.views id (OfPass v') }) (λ j. (sym k_is j, sym has j))
          (hang_kept r id v v' i g x c at' holds x_is owner turn (subst (λ z. length c.packet.bytes.bytes ≤ z) rm short) (subst (λ z. z ≤ c.packet.bytes.room) rm fits) refl refl refl refl refl
          (ap (λ (e : Pushed). Swapped e.slot x) e_is) (ap (λ e. v.mine ++ e ∷ []) e_is) (refl, refl)),
      ((λ j. (OfPass v', Rattle.atomic_table.specs.Table.rest (has j))), let m = r.chain.marks in let b = Rattle.ghes_rule.proofs.DeskLemmas.below_le r r.top (length r.log) x (omega arith) (subst (IsBelow r.log r.top (length r.log)) (sym x_is) r.chain.head) in omega arith),
    )

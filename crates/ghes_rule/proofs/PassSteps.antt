-- A pass claims a slot, and gives it up.
use Rattle.std.proofs.Common.{◌≡◌, ◌≢◌, ◌⊎◌, ℕ, zero, suc, ◌+◌, ◌-◌, ◌*◌, ◌<◌, ◌≤◌, eqb, Bool, true, false, List, [], ◌∷◌, ◌++◌, length, map, get_or, set, sym, refl, ap, ◌∙◌, subst, arith, inl, inr, ⊎_elim, Option, Some, None, length-set, length-append, take, drop}
use mathlib.Core.Logic.{dite}
use mathlib.Core.Option.{some, none, some-injective, some-ne-none}
use mathlib.Core.Option as maybe
use native.Mathlib.Decide.{ℕ_discrete, dec_le}
use lib.ListN.{get_elem?}
use Rattle.std.proofs.lemmas.List.{take-append-drop}
use Rattle.atomic_table.specs.Table.{State}
use Rattle.ghes_rule.specs.declared.views.Cell.{Cell}
use Rattle.ghes_rule.specs.declared.views.Turn.{Turn}
use Rattle.ghes_rule.specs.declared.views.Pushed.{Pushed}
use Rattle.ghes_rule.specs.declared.views.Stage.{Stage}
use Rattle.ghes_rule.specs.declared.views.Stage.TheVariants.{Idle, Holding, Swapped}
use Rattle.ghes_rule.specs.declared.views.Hand.{Hand}
use Rattle.ghes_rule.specs.declared.views.Hand.TheVariants.{Bare, Full}
use Rattle.ghes_rule.specs.declared.views.PassView.{PassView}
use Rattle.ghes_rule.specs.declared.views.WorkView.{WorkView}
use Rattle.ghes_rule.specs.declared.views.View.{View}
use Rattle.ghes_rule.specs.declared.views.View.TheVariants.{OfPass, OfWork, Spent}
use Rattle.ghes_rule.specs.Kept.{Spot, free, with_pass, waits, at_desk, busy, In, when, sum_to, count, count_in, of_pass, turn, IsBelow, Slots, InStage, PassOk, Counts, Linked, Chain, InHand, DeskOk, Knows, Seats, Held, Panic, IsKept}
use Rattle.ghes_rule.specs.Moves.{view_or, view_at, all_back, in_hand, ended_of, Settled}
use Rattle.ghes_rule.proofs.Puts.{sum_same, at_below, one_at, at_drop, in_at, at_in, count_none, count_once, count_passes, count_in_append, when_same, when_other, put, put_here, put_at, put_else, put_all, put_field, tab_length, tab_at, sum_put, sum_most, count_snoc, count_most, in_snoc, in_last, in_longer}
use Rattle.ghes_rule.proofs.Frames.{work_known, pass_known, seats_pass, seats_work, counts_same, chain_same, chair_apart, work_apart, work_spent, panic_same, linked_same}
use Rattle.ghes_rule.proofs.Quiet.{recount, settled, spot_code, stage_code, spots_apart, not_held, not_swapped, not_both, one_wait}
use Rattle.atomic_table.specs.Table.{Me, Act, keeps, Allows, Splits, Joins, step}
use Rattle.atomic_table.proofs.Lists.{at_set, set_here, set_else, set_again, at_snoc, at_longer, at_last}
use lib.Seq.{set-get_or}
use Rattle.ghes_rule.specs.Moves.{Sat, pass_of, work_of, first_back, joined, join_views, without_first, let_out, split_left, split_right, ended_if, tab, told_settled}
use Rattle.std.proofs.Common.{◌/◌, ◌%◌, bit_or, vec_capacity, get_or-set_same, get_or-set_other}
use Rattle.std.proofs.lemmas.Nat.{or_disjoint}
use Rattle.atomic_table.specs.Table.{takes, gives, stepped}
use Rattle.ghes_rule.specs.Kept.{pushed_slot}
use Rattle.ghes_rule.specs.Kept
use Rattle.ghes_rule.specs.Moves.{with_claim, with_found, without_claim, HasEmpty, tried, freed}

abbrev Homes : Type 0
Homes = List (maybe.Option (Option Cell))

abbrev pub holder_or : Spot → ℕ
holder_or free = 0
holder_or (with_pass p) = p
holder_or (waits t) = 0
holder_or at_desk = 0

pub one_holder : (p q : ℕ) → with_pass p ≡ with_pass q → p ≡ q
one_holder p q e = ap holder_or e

abbrev pub slot_or : Stage → ℕ
slot_or Idle = 0
slot_or (Holding i g) = i
slot_or (Swapped i g) = i

-- where only the word of the slot i changes, a place beside it stays as it is
pub at_same : (k room i x : ℕ) (words : List ℕ) (homes homes' : Homes) (log : List Pushed) (from age j : ℕ) (p : Spot) → i < k → j < k → j ≢ i → get_elem? homes' j ≡ get_elem? homes j
    → Kept.At k room words homes log from age j p → Kept.At k room (set words i x) homes' log from age j p
at_same k room i x words homes homes' log from age j free l m ne h a = (get_or-set_other words i j x 0 ne ∙ a.0, get_or-set_other words i (k + j) x 0 (λ e. omega arith) ∙ a.1, (a.2.0, h ∙ a.2.1, a.2.2, a.2.3))
at_same k room i x words homes homes' log from age j (with_pass p) l m ne h a = (get_or-set_other words i j x 0 ne ∙ a.0, get_or-set_other words i (k + j) x 0 (λ e. omega arith) ∙ a.1, h ∙ a.2)
at_same k room i x words homes homes' log from age j (waits t) l m ne h a = let b = a.3 in (get_or-set_other words i j x 0 ne ∙ a.0, a.1, a.2, (b.0, b.1, b.2, b.3, b.4, h ∙ b.5, b.6, b.7, b.8))
at_same k room i x words homes homes' log from age j at_desk l m ne h a = (get_or-set_other words i j x 0 ne ∙ a.0, get_or-set_other words i (k + j) x 0 (λ e. omega arith) ∙ a.1, h ∙ a.2)

-- a stage of another pass, where the slot i changes and was neither that pass's nor waiting
pub stage_same : (k i x q c : ℕ) (words : List ℕ) (log : List Pushed) (age : ℕ → ℕ) (spot : ℕ → Spot) (Q : Spot) (z : Stage) → i < k → spot_code (spot i) ≢ 2 → (spot i ≢ with_pass q)
    → InStage k words log age spot q z → InStage k (set words i x) log (put age i c) (put spot i Q) q z
stage_same k i x q c words log age spot Q Idle l a b h = tt
stage_same k i x q c words log age spot Q (Holding j g) l a b h = let ne : j ≢ i = λ e. b (sym (ap spot e) ∙ h.1) in (h.0, put_else spot i Q j ne ∙ h.1, put_else age i c j ne ∙ h.2)
stage_same k i x q c words log age spot Q (Swapped j old) l a b h = let t = h.1 in let ne : j ≢ i = λ e. a (sym (ap (λ m. spot_code (spot m)) e) ∙ ap spot_code t.2) in
    (h.0, (t.0, t.1, put_else spot i Q j ne ∙ t.2, t.3, t.4, get_or-set_other words i (k + j) x 0 (λ e. omega arith) ∙ t.5))

pub hand_same : (k i c : ℕ) (age : ℕ → ℕ) (spot : ℕ → Spot) (Q : Spot) (h : Hand) → spot_code (spot i) ≢ 3 → InHand k age spot h → InHand k (put age i c) (put spot i Q) h
hand_same k i c age spot Q Bare a h = tt
hand_same k i c age spot Q (Full j g) a h = let ne : j ≢ i = λ e. a (sym (ap (λ m. spot_code (spot m)) e) ∙ ap spot_code h.1) in (h.0, put_else spot i Q j ne ∙ h.1, put_else age i c j ne ∙ h.2)

module _ {room n : ℕ} {s : State (Option Cell) View} (r : IsKept room n s) where
  -- the pass of the seat id changes the word i to x and its view to v', and the slot i goes to Q, where neither place is waiting nor the desk
  pub pass_moves : (id : ℕ) (v v' : PassView) (i x c : ℕ) (homes' : Homes) (Q : Spot) → get_elem? s.views id ≡ some (OfPass v) → i < r.k → v'.number ≡ v.number → v'.room ≡ v.room → v'.mine ≡ v.mine → v'.since ≡ v.since → (v'.fatal ≡ v.fatal) × (v'.loads ≡ v.loads)
      → spot_code (r.spot i) < 2 → spot_code Q < 2 → r.age i ≤ c → length homes' ≡ length s.homes → ((j : ℕ) → j ≢ i → get_elem? homes' j ≡ get_elem? s.homes j)
      → Kept.At r.k room (set s.words i x) homes' r.log r.from c i Q
      → InStage r.k (set s.words i x) r.log (put r.age i c) (put r.spot i Q) v.number v'.stage
      → ((q : ℕ) → q ≢ v.number → r.spot i ≢ with_pass q) → ((q : ℕ) → Q ≡ with_pass q → (q ≡ v.number) × (v'.stage ≡ Holding i c))
      → ((j g : ℕ) → j ≢ i → v.stage ≢ Holding j g) → ((j old : ℕ) → v.stage ≢ Swapped j old)
      → Counts r.k n (λ j. put r.age i c j + busy (put r.spot i Q j)) (put r.pass v.number v')
      → IsKept room n record { words = set s.words i x; homes = homes'; views = set s.views id (OfPass v') }
  pass_moves id v v' i x c homes' Q at inside num rm mn sn pn was now older deep homes here staged others held only calm counts =
      let known = pass_known r.seats id v at in let p : ℕ = v.number in let l : p < n = known.0 in let is : r.pass p ≡ v = known.2 in let ok = r.passes p l in
      let numbers : (q : ℕ) → q < n → (r.pass q).number ≡ q = λ q m. (r.passes q m).number in
      let wide = r.slots.wide in
      let link : (j : ℕ) → get_or (set s.words i x) (r.k + j) 0 ≡ get_or s.words (r.k + j) 0 = λ j. get_or-set_other s.words i (r.k + j) x 0 (λ e. omega arith) in
      let waits_apart : (j t : ℕ) → r.spot j ≡ waits t → j ≢ i = λ j t e q. let a = sym (ap (λ m. spot_code (r.spot m)) q) ∙ ap spot_code e in omega arith in
      let linked : (b t : ℕ) → Linked r.k s.words r.log r.pass b t → Linked r.k (set s.words i x) r.log (put r.pass p v') b t = λ b t h. (
        h.0,
        h.1,
        ⊎_elim (λ a. inl (link h.0.slot ∙ a.0, (a.1.0, ap (λ (z : PassView). z.stage) (put_else r.pass p v' h.0.pass (λ e. calm h.0.slot a.1.0 (ap (λ (z : PassView). z.stage) (sym is) ∙ (ap (λ q. (r.pass q).stage) (sym e) ∙ a.1.1)))) ∙ a.1.1, a.1.2))) (λ a. inr (a.0, link h.0.slot ∙ a.1, a.2)) h.2,
      ) in
      record {
        k = r.k;
        spot = put r.spot i Q;
        age = put r.age i c;
        pass = put r.pass p v';
        seat = r.seat;
        desk = r.desk;
        chair = r.chair;
        log = r.log;
        from = r.from;
        walk = r.walk;
        top = r.top;
        slots = record {
          wide = length-set s.words i x ∙ wide;
          deep = deep ∙ r.slots.deep;
          each = λ j m. dite (ℕ_discrete j i)
              (λ e. subst (λ (z : ℕ × Spot × ℕ). Kept.At r.k room (set s.words i x) homes' r.log r.from z.0 z.2 z.1) (λ d. (sym (put_at r.age i c j e) d, sym (put_at r.spot i Q j e) d, sym e d)) here)
              (λ ne. subst (λ (z : ℕ × Spot). Kept.At r.k room (set s.words i x) homes' r.log r.from z.0 j z.1) (λ d. (sym (put_else r.age i c j ne) d, sym (put_else r.spot i Q j ne) d))
              (at_same r.k room i x s.words s.homes homes' r.log r.from (r.age j) j (r.spot j) inside m ne (homes j ne) (r.slots.each j m)));
        };
        passes = λ q m. dite (ℕ_discrete q p)
            (λ e. subst (λ (z : ℕ × PassView). PassOk r.k (set s.words i x) r.log (put r.age i c) (put r.spot i Q) z.0 room z.1) (λ d. (sym e d, sym (put_at r.pass p v' q e) d)) record {
              number = num;
              room_is = rm ∙ (ap (λ (z : PassView). z.room) (sym is) ∙ ok.room_is);
              stage = staged;
              mine = mn ∙ (ap (λ (z : PassView). z.mine) (sym is) ∙ ok.mine);
              since = λ j b. let a = ok.since j b in let same : get_or v'.since j 0 ≡ get_or (r.pass p).since j 0 = ap (λ zs. get_or zs j 0) (sn ∙ ap (λ (z : PassView). z.since) (sym is)) in
                  put_all (λ j z. get_or v'.since j 0 ≤ z) r.age i c j (λ e. let a' = ap r.age e in omega arith) (λ _. omega arith);
            })
            (λ ne. let o = r.passes q m in subst (λ (z : PassView). PassOk r.k (set s.words i x) r.log (put r.age i c) (put r.spot i Q) q room z) (sym (put_else r.pass p v' q ne)) record {
              number = o.number;
              room_is = o.room_is;
              stage = stage_same r.k i x q c s.words r.log r.age r.spot Q (r.pass q).stage inside (λ e. omega arith) (others q ne) o.stage;
              mine = o.mine;
              since = λ j b. let a = o.since j b in put_all (λ j z. get_or (r.pass q).since j 0 ≤ z) r.age i c j (λ e. let a' = ap r.age e in omega arith) (λ _. omega arith);
            });
        held = λ j q m e. dite (ℕ_discrete j i)
            (λ d. let h = held q (sym (put_at r.spot i Q j d) ∙ e) in ap (λ (z : PassView). z.stage) (put_at r.pass p v' q h.0) ∙ (h.1 ∙ (λ z. Holding (sym d z) (sym (put_at r.age i c j d) z))))
            (λ ne. let h = r.held j q m (sym (put_else r.spot i Q j ne) ∙ e) in
            ap (λ (z : PassView). z.stage) (put_else r.pass p v' q (λ d. only j (r.age j) ne (ap (λ (z : PassView). z.stage) (sym is) ∙ (ap (λ u. (r.pass u).stage) (sym d) ∙ h)))) ∙ (h ∙ ap (Holding j) (sym (put_else r.age i c j ne))));
        counts = counts;
        chain = record {
          marks = r.chain.marks;
          passes = r.chain.passes;
          pending = λ t a b. let o = r.chain.pending t a b in (o.0, o.1, o.2, put_else r.spot i Q o.0.slot (waits_apart o.0.slot t o.3) ∙ o.3);
          rest = λ t a b. linked r.from t (r.chain.rest t a b);
          walked = λ t e a b h z. r.chain.walked t e a b h (sym (link e.slot) ∙ z);
          hangs = λ t a b. linked r.top t (r.chain.hangs t a b);
          head = subst (IsBelow r.log r.top (length r.log)) (sym (get_or-set_other s.words i (2 * r.k) x 0 (λ e. omega arith))) r.chain.head;
        };
        work = record {
          room_is = r.work.room_is;
          cursor = r.work.cursor;
          walked = r.work.walked;
          taken = r.work.taken;
          hand = hand_same r.k i c r.age r.spot Q r.desk.held (λ e. omega arith) r.work.hand;
          hand_end = r.work.hand_end;
          desk = λ j m e. dite (ℕ_discrete j i) (λ d. absurd (let a = ap spot_code (sym (put_at r.spot i Q j d) ∙ e) in omega arith))
              (λ ne. r.work.desk j m (sym (put_else r.spot i Q j ne) ∙ e) ∙ ap (Full j) (sym (put_else r.age i c j ne)));
          holder = λ j q m e. dite (ℕ_discrete j i) (λ d. let h = held q (sym (put_at r.spot i Q j d) ∙ e) in let h₀ = h.0 in omega arith) (λ ne. r.work.holder j q m (sym (put_else r.spot i Q j ne) ∙ e));
          as_long = r.work.as_long;
          ended = λ j m. let a = r.work.ended j m in put_all (λ j z. get_or r.desk.ended j 0 ≤ z) r.age i c j (λ e. let a' = ap r.age e in omega arith) (λ _. omega arith);
          all_ended = λ all. absurd (let z = all p l in let o = known.1 in omega arith);
        };
        seats = seats_pass r.seats id v v' numbers at num;
        panic = panic_same (get_or-set_other s.words i (2 * r.k + 1) x 0 (λ e. omega arith)) (put_field (λ (z : PassView). z.fatal) r.pass p v' (pn.0 ∙ ap (λ (z : PassView). z.fatal) (sym is))) (put_field (λ (z : PassView). z.loads) r.pass p v' (pn.1 ∙ ap (λ (z : PassView). z.loads) (sym is))) refl r.panic;
      }

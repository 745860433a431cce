-- The decoder frees the slot that it has in hand.
use Rattle.std.proofs.Common.{◌≡◌, ◌≢◌, ◌⊎◌, ℕ, zero, suc, ◌+◌, ◌-◌, ◌*◌, ◌<◌, ◌≤◌, eqb, Bool, true, false, List, [], ◌∷◌, ◌++◌, length, map, get_or, set, sym, refl, ap, ◌∙◌, subst, arith, inl, inr, ⊎_elim, Option, Some, None, length-set, length-append, take, drop}
use mathlib.Core.Logic.{dite}
use mathlib.Core.Option.{some, none, some-injective, some-ne-none}
use mathlib.Core.Option as maybe
use native.Mathlib.Decide.{ℕ_discrete, dec_le}
use lib.ListN.{get_elem?}
use Rattle.std.proofs.lemmas.List.{take-append-drop}
use Rattle.atomic_table.specs.Table.{State}
use Rattle.ghes_rule.specs.declared.views.Cell.{Cell}
use Rattle.ghes_rule.specs.declared.views.Turn.{Turn}
use Rattle.ghes_rule.specs.declared.views.Pushed.{Pushed}
use Rattle.ghes_rule.specs.declared.views.Stage.{Stage}
use Rattle.ghes_rule.specs.declared.views.Stage.TheVariants.{Idle, Holding, Swapped}
use Rattle.ghes_rule.specs.declared.views.Hand.{Hand}
use Rattle.ghes_rule.specs.declared.views.Hand.TheVariants.{Bare, Full}
use Rattle.ghes_rule.specs.declared.views.PassView.{PassView}
use Rattle.ghes_rule.specs.declared.views.WorkView.{WorkView}
use Rattle.ghes_rule.specs.declared.views.View.{View}
use Rattle.ghes_rule.specs.declared.views.View.TheVariants.{OfPass, OfWork, Spent}
use Rattle.ghes_rule.specs.Kept.{Spot, free, with_pass, waits, at_desk, busy, In, when, sum_to, count, count_in, of_pass, turn, IsBelow, Slots, InStage, PassOk, Counts, Linked, Chain, InHand, DeskOk, Knows, Seats, Held, Panic, IsKept}
use Rattle.ghes_rule.specs.Moves.{view_or, view_at, all_back, in_hand, ended_of, Settled}
use Rattle.atomic_table.specs.Table.{Me, Act, keeps, Allows, Splits, Joins, step}
use Rattle.atomic_table.proofs.Lists.{at_set, set_here, set_else, set_again, at_snoc, at_longer, at_last}
use lib.Seq.{set-get_or}
use Rattle.ghes_rule.specs.Moves.{Sat, pass_of, work_of, first_back, joined, join_views, without_first, let_out, split_left, split_right, ended_if, tab, told_settled}
use Rattle.std.proofs.Common.{◌/◌, ◌%◌, bit_or, vec_capacity, get_or-set_same, get_or-set_other}
use Rattle.std.proofs.lemmas.Nat.{or_disjoint}
use Rattle.atomic_table.specs.Table.{takes, gives, stepped}
use Rattle.ghes_rule.specs.Kept.{pushed_slot}
use Rattle.ghes_rule.specs.Kept
use Rattle.ghes_rule.specs.Moves.{with_claim, with_found, without_claim, HasEmpty, tried, freed}
use Rattle.std.proofs.lemmas.List.{take-append-le}
use Rattle.ghes_rule.specs.Moves.{with_chain, with_link, with_taken, with_given, detached, walked_on, took, took_first, gave, tail_of, first_walked, hand_slot}
use Rattle.std.proofs.lemmas.List.{take_all}
use Rattle.ghes_rule.specs.Moves.{AllTaken, IsOldest}
use Rattle.atomic_table.proofs.Lists.{drop_at}
use Rattle.ghes_rule.proofs.Puts.{put, put_at, put_else}
use Rattle.ghes_rule.proofs.Frames.{seats_work, counts_same, panic_same}
use Rattle.ghes_rule.proofs.Quiet.{spot_code, spots_apart}
use Rattle.ghes_rule.proofs.Keeps.{longer_self, at_keep, stage_keep, linked_keep}
use Rattle.ghes_rule.proofs.BackLemmas.{quiet_after}
use Rattle.ghes_rule.proofs.DeskLemmas.{bare_not_full}

module _ {room n : ℕ} {s : State (Option Cell) View} (r : IsKept room n s) where
  give_kept : (i g x : ℕ) (c : Cell) → x ≡ 2 * (g + 1) → r.desk.held ≡ Full i g → c.packet.bytes.bytes ≡ [] → room ≤ c.packet.bytes.room
      → IsKept room n record { words = set s.words i x; homes = set s.homes i (some (Some c)); views = set s.views r.chair (OfWork (record r.desk { held = Bare; ended = set r.desk.ended i (get_or r.desk.ended i 0 + 1) })) }
  give_kept i g x c x_is full empty fits =
      let k : ℕ = r.k in let hand = subst (InHand k r.age r.spot) full r.work.hand in let inside : i < k = hand.0 in let was : r.spot i ≡ at_desk = hand.1 in let age_is : r.age i ≡ g = hand.2 in let wide = r.slots.wide in
      let words' : List ℕ = set s.words i x in let spot' : ℕ → Spot = put r.spot i free in let age' : ℕ → ℕ = put r.age i (g + 1) in
      let place = subst (Kept.At k room s.words s.homes r.log r.from (r.age i) i) was (r.slots.each i inside) in
      let else_spot : (j : ℕ) → j ≢ i → spot' j ≡ r.spot j = λ j ne. put_else r.spot i free j ne in let else_age : (j : ℕ) → j ≢ i → age' j ≡ r.age j = λ j ne. put_else r.age i (g + 1) j ne in
      let here_age : (j : ℕ) → j ≡ i → age' j ≡ g + 1 = λ j e. put_at r.age i (g + 1) j e in
      let link : (j : ℕ) → get_or words' (k + j) 0 ≡ get_or s.words (k + j) 0 = λ j. get_or-set_other s.words i (k + j) x 0 (λ q. omega arith) in
      let older : (j y : ℕ) → y ≤ r.age j → y ≤ age' j = λ j y l. dite (ℕ_discrete j i) (λ e. let a = here_age j e in let b = ap r.age e in omega arith) (λ ne. let a = else_age j ne in omega arith) in
      let apart : (j : ℕ) (Q : Spot) → spot_code Q ≢ 3 → r.spot j ≡ Q → j ≢ i = λ j Q c e z. c (sym (ap spot_code e) ∙ (ap (λ y. spot_code (r.spot y)) z ∙ ap spot_code was)) in
      let ended_len = r.work.as_long in let ended' : List ℕ = set r.desk.ended i (get_or r.desk.ended i 0 + 1) in
      let ended_here : (j : ℕ) → j ≡ i → get_or ended' j 0 ≡ get_or r.desk.ended i 0 + 1 = λ j e. ap (λ y. get_or ended' y 0) e ∙ get_or-set_same r.desk.ended i (get_or r.desk.ended i 0 + 1) 0 (omega arith) in
      let ended_else : (j : ℕ) → j ≢ i → get_or ended' j 0 ≡ get_or r.desk.ended j 0 = λ j ne. get_or-set_other r.desk.ended i j (get_or r.desk.ended i 0 + 1) 0 ne in
      let lg = longer_self r.log in
      record {
        k = k;
        spot = spot';
        age = age';
        pass = r.pass;
        seat = r.seat;
        desk = record r.desk { held = Bare; ended = ended' };
        chair = r.chair;
        log = r.log;
        from = r.from;
        walk = r.walk;
        top = r.top;
        slots = record {
          wide = length-set s.words i x ∙ wide;
          deep = length-set s.homes i (some (Some c)) ∙ r.slots.deep;
          each = λ j l. dite (ℕ_discrete j i)
              (λ q. subst (λ (z : ℕ × ℕ × Spot). Kept.At k room words' (set s.homes i (some (Some c))) r.log r.from z.1 z.0 z.2) (λ d. (sym q d, sym (here_age j q) d, sym (put_at r.spot i free j q) d))
              (get_or-set_same s.words i x 0 (omega arith) ∙ x_is, link i ∙ place.1, (c, set_here s.homes i (some (Some c)) (let dp = r.slots.deep in omega arith), empty, fits)))
              (λ ne. subst (λ (z : ℕ × Spot). Kept.At k room words' (set s.homes i (some (Some c))) r.log r.from z.0 j z.1) (λ d. (sym (else_age j ne) d, sym (else_spot j ne) d))
              (at_keep k room s.words words' s.homes (set s.homes i (some (Some c))) r.log r.log r.from r.from (r.age j) j (r.spot j) (get_or-set_other s.words i j x 0 ne) (λ _. link j) (set_else s.homes i j (some (Some c)) ne) lg (λ _ _ z. z) (r.slots.each j l)));
        };
        passes = λ q l. let o = r.passes q l in record {
          number = o.number;
          room_is = o.room_is;
          stage = stage_keep k q s.words words' r.log r.log r.age age' r.spot spot' (r.pass q).stage lg
              (λ j _ w. let ne = apart j (with_pass q) (λ y. omega arith) w in (else_spot j ne, else_age j ne))
              (λ j t f b w z at _. (else_spot j (apart j (waits t) (λ y. omega arith) w), link j ∙ z)) o.stage;
          mine = o.mine;
          since = λ j l. older j (get_or (r.pass q).since j 0) (o.since j l);
        };
        held = λ j p l w. let ne : j ≢ i = λ z. spots_apart free (with_pass p) (λ y. omega arith) (sym (put_at r.spot i free j z) ∙ w) in r.held j p l (sym (else_spot j ne) ∙ w) ∙ ap (Holding j) (sym (else_age j ne));
        counts = counts_same (λ j _. dite (ℕ_discrete j i)
            (λ z. (λ d. here_age j z d + busy (put_at r.spot i free j z d)) ∙ (let a = ap busy was in let b = ap (λ y. r.age y + busy (r.spot y)) z in let h : g + 1 + busy free ≡ r.age j + busy (r.spot j) = omega arith in h))
            (λ ne. (λ d. else_age j ne d + busy (else_spot j ne d)))) (λ _. refl) (λ _. refl) r.counts;
        chain = record {
          marks = r.chain.marks;
          passes = r.chain.passes;
          pending = λ t a b. let o = r.chain.pending t a b in (o.0, o.1, o.2, else_spot o.0.slot (apart o.0.slot (waits t) (λ y. omega arith) o.3) ∙ o.3);
          rest = λ t a b. linked_keep k s.words words' r.log r.log r.pass r.pass r.from t lg (λ f _. link f.slot) (λ _ _ _ _. refl) (r.chain.rest t a b);
          walked = λ t f a b h z. r.chain.walked t f a b h (sym (link f.slot) ∙ z);
          hangs = λ t a b. linked_keep k s.words words' r.log r.log r.pass r.pass r.top t lg (λ f _. link f.slot) (λ _ _ _ _. refl) (r.chain.hangs t a b);
          head = subst (IsBelow r.log r.top (length r.log)) (sym (get_or-set_other s.words i (2 * k) x 0 (λ z. omega arith))) r.chain.head;
        };
        work = record {
          room_is = r.work.room_is;
          cursor = r.work.cursor;
          walked = r.work.walked;
          taken = r.work.taken;
          hand = tt;
          hand_end = λ j h e. absurd (bare_not_full Bare j h refl e);
          desk = λ j l w. let ne : j ≢ i = λ z. spots_apart free at_desk (λ y. omega arith) (sym (put_at r.spot i free j z) ∙ w) in
              absurd (ne (sym (ap hand_slot (sym full ∙ r.work.desk j l (sym (else_spot j ne) ∙ w)))));
          holder = λ j p l w. let ne : j ≢ i = λ z. spots_apart free (with_pass p) (λ y. omega arith) (sym (put_at r.spot i free j z) ∙ w) in r.work.holder j p l (sym (else_spot j ne) ∙ w);
          as_long = length-set r.desk.ended i (get_or r.desk.ended i 0 + 1) ∙ ended_len;
          ended = λ j l. dite (ℕ_discrete j i) (λ z. let a = ended_here j z in let b = here_age j z in let d = r.work.ended i inside in omega arith) (λ ne. let a = ended_else j ne in let b = else_age j ne in let d = r.work.ended j l in omega arith);
          all_ended = λ all j l. dite (ℕ_discrete j i) (λ z. let a = ended_here j z in let b = here_age j z in let d = r.work.all_ended all i inside in omega arith) (λ ne. let a = ended_else j ne in let b = else_age j ne in let d = r.work.all_ended all j l in omega arith);
        };
        seats = seats_work r.seats (record r.desk { held = Bare; ended = ended' }) refl;
        panic = panic_same (get_or-set_other s.words i (2 * k + 1) x 0 (λ z. omega arith)) (λ _. refl) (λ _. refl) refl r.panic;
      }

-- k8
pub gives_back : (room n slots id i g : ℕ) (me : Sat) (w : WorkView) → me.0 ≡ OfWork w → Rattle.ghes_rule.specs.Moves.HasEmpty w.room i me.1 → w.held ≡ Full i g
    → Allows (IsKept room n) slots id me i (λ _. 2 * (g + 1)) (λ _. gave (step slots i (2 * (g + 1)) 0 none) me (2 * (g + 1)))
gives_back room n slots id i g me w is has full s r deep at _ =
    let know = r.seats.each id (OfWork w) (at ∙ ap some is) in let chair_is : id ≡ r.chair = know.0 in let desk_is : w ≡ r.desk = know.1 in let d_of : r.desk ≡ work_of me.0 = sym desk_is ∙ ap work_of (sym is) in
    let full' : r.desk.held ≡ Full i g = ap (λ (z : WorkView). z.held) (sym desk_is) ∙ full in let x : ℕ = 2 * (g + 1) in let c : Cell = has.0 in
    let fits : room ≤ c.packet.bytes.room = subst (λ z. z ≤ c.packet.bytes.room) (ap (λ (z : WorkView). z.room) desk_is ∙ r.work.room_is) has.3 in
    let view_is : OfWork (record r.desk { held = Bare; ended = set r.desk.ended i (get_or r.desk.ended i 0 + 1) }) ≡ OfWork (with_given (work_of me.0)) =
    ap (λ j. OfWork (record r.desk { held = Bare; ended = set r.desk.ended j (get_or r.desk.ended j 0 + 1) })) (sym (ap hand_slot full')) ∙ ap (λ z. OfWork (with_given z)) d_of in
    let kept = subst (λ (z : List (ℕ × Option Cell) × ℕ × View). IsKept room n record { words = set s.words i x; homes = Rattle.atomic_table.specs.Table.put_back s.homes z.0; views = set s.views z.1 z.2 }) (λ j. (sym has.1 j, sym chair_is j, view_is j))
    (give_kept r i g x c refl full' has.2 fits) in (
      OfWork (with_given (work_of me.0)),
      gives,
      tt,
      kept,
      ((λ j. (OfWork (with_given (work_of me.0)), Rattle.atomic_table.specs.Table.rest (has.1 j))), quiet_after (set s.words i x) (Rattle.atomic_table.specs.Table.put_back s.homes me.1) s.views id me.0 (OfWork (with_given (work_of me.0))) at kept),
    )

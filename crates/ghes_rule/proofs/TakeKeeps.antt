-- The decoder takes the oldest slot that was walked.
use Rattle.std.proofs.Common.{◌≡◌, ◌≢◌, ◌⊎◌, ℕ, zero, suc, ◌+◌, ◌-◌, ◌*◌, ◌<◌, ◌≤◌, eqb, Bool, true, false, List, [], ◌∷◌, ◌++◌, length, map, get_or, set, sym, refl, ap, ◌∙◌, subst, arith, inl, inr, ⊎_elim, Option, Some, None, length-set, length-append, take, drop}
use mathlib.Core.Logic.{dite}
use mathlib.Core.Option.{some, none, some-injective, some-ne-none}
use mathlib.Core.Option as maybe
use native.Mathlib.Decide.{ℕ_discrete, dec_le}
use lib.ListN.{get_elem?}
use Rattle.std.proofs.lemmas.List.{take-append-drop}
use Rattle.atomic_table.specs.Table.{State}
use Rattle.ghes_rule.specs.declared.views.Cell.{Cell}
use Rattle.ghes_rule.specs.declared.views.Turn.{Turn}
use Rattle.ghes_rule.specs.declared.views.Pushed.{Pushed}
use Rattle.ghes_rule.specs.declared.views.Stage.{Stage}
use Rattle.ghes_rule.specs.declared.views.Stage.TheVariants.{Idle, Holding, Swapped}
use Rattle.ghes_rule.specs.declared.views.Hand.{Hand}
use Rattle.ghes_rule.specs.declared.views.Hand.TheVariants.{Bare, Full}
use Rattle.ghes_rule.specs.declared.views.PassView.{PassView}
use Rattle.ghes_rule.specs.declared.views.WorkView.{WorkView}
use Rattle.ghes_rule.specs.declared.views.View.{View}
use Rattle.ghes_rule.specs.declared.views.View.TheVariants.{OfPass, OfWork, Spent}
use Rattle.ghes_rule.specs.Kept.{Spot, free, with_pass, waits, at_desk, busy, In, when, sum_to, count, count_in, of_pass, turn, IsBelow, Slots, InStage, PassOk, Counts, Linked, Chain, InHand, DeskOk, Knows, Seats, Held, Panic, IsKept}
use Rattle.ghes_rule.specs.Moves.{view_or, view_at, all_back, in_hand, ended_of, Settled}
use Rattle.atomic_table.specs.Table.{Me, Act, keeps, Allows, Splits, Joins, step}
use Rattle.atomic_table.proofs.Lists.{at_set, set_here, set_else, set_again, at_snoc, at_longer, at_last}
use lib.Seq.{set-get_or}
use Rattle.ghes_rule.specs.Moves.{Sat, pass_of, work_of, first_back, joined, join_views, without_first, let_out, split_left, split_right, ended_if, tab, told_settled}
use Rattle.std.proofs.Common.{◌/◌, ◌%◌, bit_or, vec_capacity, get_or-set_same, get_or-set_other}
use Rattle.std.proofs.lemmas.Nat.{or_disjoint}
use Rattle.atomic_table.specs.Table.{takes, gives, stepped}
use Rattle.ghes_rule.specs.Kept.{pushed_slot}
use Rattle.ghes_rule.specs.Kept
use Rattle.ghes_rule.specs.Moves.{with_claim, with_found, without_claim, HasEmpty, tried, freed}
use Rattle.std.proofs.lemmas.List.{take-append-le}
use Rattle.ghes_rule.specs.Moves.{with_chain, with_link, with_taken, with_given, detached, walked_on, took, took_first, gave, tail_of, first_walked, hand_slot}
use Rattle.std.proofs.lemmas.List.{take_all}
use Rattle.ghes_rule.specs.Moves.{AllTaken, IsOldest}
use Rattle.atomic_table.proofs.Lists.{drop_at}
use Rattle.ghes_rule.proofs.Puts.{one_at, put, put_here, put_at, put_else}
use Rattle.ghes_rule.proofs.Frames.{seats_work, counts_same, panic_same}
use Rattle.ghes_rule.proofs.Quiet.{spots_apart, one_wait, waits_at}
use Rattle.ghes_rule.proofs.Keeps.{longer_self, at_keep, stage_keep, below_zero, linked_keep, length_take_drop, take_next}
use Rattle.ghes_rule.proofs.PassLemmas.{few_claims}
use Rattle.ghes_rule.proofs.BackLemmas.{quiet_after}
use Rattle.ghes_rule.proofs.DeskLemmas.{mine_known, bare_not_full}

module _ {room n : ℕ} {s : State (Option Cell) View} (r : IsKept room n s) where
  -- the push at `from` is taken out
  take_kept : (e : Pushed) (m : ℕ) → get_elem? r.log r.from ≡ some e → r.walk ≡ r.from → r.from + suc m ≡ r.top → tail_of r.desk.walked ≡ map pushed_slot (take m (drop (r.from + 1) r.log)) → r.desk.cursor ≡ 0 → r.desk.held ≡ Bare → e.turn ≡ r.age e.slot
      → IsKept room n record { words = set s.words (r.k + e.slot) 0; homes = set s.homes e.slot none; views = set s.views r.chair (OfWork (with_taken r.desk e)) }
  take_kept e m there walk_is sum tail end bare turn_is =
      let k : ℕ = r.k in let i : ℕ = e.slot in let marks = r.chain.marks in let m₂ = marks.2 in let wide = r.slots.wide in
      let spotted = waits_at r.chain r.from e (omega arith) there in let inside : i < k = spotted.0 in let was : r.spot i ≡ waits r.from = spotted.1 in
      let words' : List ℕ = set s.words (k + i) 0 in let spot' : ℕ → Spot = put r.spot i at_desk in
      let place = subst (Kept.At k room s.words s.homes r.log r.from (r.age i) i) was (r.slots.each i inside) in
      let set_link = r.chain.walked r.from e (omega arith) (omega arith) there in
      let else_spot : (j : ℕ) → j ≢ i → spot' j ≡ r.spot j = λ j ne. put_else r.spot i at_desk j ne in
      let link : (j : ℕ) → j ≢ i → get_or words' (k + j) 0 ≡ get_or s.words (k + j) 0 = λ j ne. get_or-set_other s.words (k + i) (k + j) 0 0 (λ q. ne (omega arith)) in
      let apart : (t : ℕ) (f : Pushed) → r.from + 1 ≤ t → get_elem? r.log t ≡ some f → f.slot ≢ i = λ t f low at q. let a : t ≡ r.from = one_wait t r.from (sym (waits_at r.chain t f (omega arith) at).1 ∙ (ap r.spot q ∙ was)) in omega arith in
      let g = longer_self r.log in
      record {
        k = k;
        spot = spot';
        age = r.age;
        pass = r.pass;
        seat = r.seat;
        desk = with_taken r.desk e;
        chair = r.chair;
        log = r.log;
        from = r.from + 1;
        walk = r.from + 1;
        top = r.top;
        slots = record {
          wide = length-set s.words (k + i) 0 ∙ wide;
          deep = length-set s.homes i none ∙ r.slots.deep;
          each = λ j l. dite (ℕ_discrete j i)
              (λ q. subst (λ (z : ℕ × Spot). Kept.At k room words' (set s.homes i none) r.log (r.from + 1) (r.age z.0) z.0 z.1) (λ d. (sym q d, sym (put_at r.spot i at_desk j q) d))
              (get_or-set_other s.words (k + i) i 0 0 (λ z. omega arith) ∙ place.0, get_or-set_same s.words (k + i) 0 0 (omega arith), set_here s.homes i none (let dp = r.slots.deep in omega arith)))
              (λ ne. subst (Kept.At k room words' (set s.homes i none) r.log (r.from + 1) (r.age j) j) (sym (else_spot j ne))
              (at_keep k room s.words words' s.homes (set s.homes i none) r.log r.log r.from (r.from + 1) (r.age j) j (r.spot j) (get_or-set_other s.words (k + i) j 0 0 (λ z. omega arith)) (λ _. link j ne) (set_else s.homes i j none ne) g
              (λ t q low. let at_j = subst (Kept.At k room s.words s.homes r.log r.from (r.age j) j) q (r.slots.each j l) in let b = at_j.3 in
              dite (ℕ_discrete t r.from) (λ z. absurd (ne (sym b.3 ∙ ap pushed_slot (one_at r.log r.from b.0 e (subst (λ y. get_elem? r.log y ≡ some b.0) z b.2) there)))) (λ z. omega arith)) (r.slots.each j l)));
        };
        passes = λ q l. let o = r.passes q l in record {
          number = o.number;
          room_is = o.room_is;
          stage = stage_keep k q s.words words' r.log r.log r.age r.age r.spot spot' (r.pass q).stage g
              (λ j _ w. (else_spot j (λ z. spots_apart (waits r.from) (with_pass q) (λ y. omega arith) (sym was ∙ (ap r.spot (sym z) ∙ w))), refl))
              (λ j t f b w z at _. let ne : j ≢ i = λ y. set_link (ap (λ x. get_or s.words (k + x) 0) (sym y) ∙ z) in (else_spot j ne, link j ne ∙ z)) o.stage;
          mine = o.mine;
          since = o.since;
        };
        held = λ j p l w. let ne : j ≢ i = λ z. spots_apart at_desk (with_pass p) (λ y. omega arith) (sym (put_at r.spot i at_desk j z) ∙ w) in r.held j p l (sym (else_spot j ne) ∙ w);
        counts = counts_same (λ j _. ap (λ z. r.age j + z) (dite (ℕ_discrete j i) (λ z. ap busy (put_at r.spot i at_desk j z) ∙ (sym (ap busy was) ∙ ap (λ y. busy (r.spot y)) (sym z))) (λ ne. ap busy (else_spot j ne)))) (λ _. refl) (λ _. refl) r.counts;
        chain = record {
          marks = (omega arith, omega arith, marks.2);
          passes = r.chain.passes;
          pending = λ t a b. let o = r.chain.pending t (omega arith) b in (o.0, o.1, o.2, else_spot o.0.slot (apart t o.0 a o.1) ∙ o.3);
          rest = λ t a b. absurd (omega arith);
          walked = λ t f a b h z. r.chain.walked t f (omega arith) b h (sym (link f.slot (apart t f a h)) ∙ z);
          hangs = λ t a b. linked_keep k s.words words' r.log r.log r.pass r.pass r.top t g (λ f at. link f.slot (apart t f (omega arith) at)) (λ _ _ _ _. refl) (r.chain.hangs t a b);
          head = subst (IsBelow r.log r.top (length r.log)) (sym (get_or-set_other s.words (k + i) (2 * k) 0 0 (λ z. omega arith))) r.chain.head;
        };
        work = record {
          room_is = r.work.room_is;
          cursor = inl (refl, end);
          walked = (m, omega arith, tail);
          taken = ap (λ l. l ++ e ∷ []) r.work.taken ∙ sym (take_next r.from r.log e there);
          hand = (inside, put_here r.spot i at_desk, sym turn_is);
          hand_end = λ _ _ _. end;
          desk = λ j l w. dite (ℕ_discrete j i) (λ z. (λ d. Full (sym z d) ((turn_is ∙ ap r.age (sym z)) d))) (λ ne. absurd (bare_not_full r.desk.held j (r.age j) bare (r.work.desk j l (sym (else_spot j ne) ∙ w))));
          holder = λ j p l w. let ne : j ≢ i = λ z. spots_apart at_desk (with_pass p) (λ y. omega arith) (sym (put_at r.spot i at_desk j z) ∙ w) in r.work.holder j p l (sym (else_spot j ne) ∙ w);
          as_long = r.work.as_long;
          ended = r.work.ended;
          all_ended = r.work.all_ended;
        };
        seats = seats_work r.seats (with_taken r.desk e) refl;
        panic = panic_same (get_or-set_other s.words (k + i) (2 * k + 1) 0 0 (λ z. omega arith)) (λ _. refl) (λ _. refl) refl r.panic;
      }

-- k7
pub takes_first : (room n slots id i : ℕ) (rest : List ℕ) (me : Sat) (w : WorkView) → me.0 ≡ OfWork w → me.1 ≡ [] → w.walked ≡ i ∷ rest → w.cursor ≡ 0 → w.held ≡ Bare
    → Allows (IsKept room n) slots id me (slots + i) (λ _. 0) (λ _. took_first (step slots (slots + i) 0 0 none) me 0)
takes_first room n slots id i rest me w is no_cell walked end bare s r deep at _ =
    let know = r.seats.each id (OfWork w) (at ∙ ap some is) in let chair_is : id ≡ r.chair = know.0 in let desk_is : w ≡ r.desk = know.1 in let k_is : slots ≡ r.k = sym deep ∙ r.slots.deep in
    let w_of : w ≡ work_of me.0 = ap work_of (sym is) in let d_of : r.desk ≡ work_of me.0 = sym desk_is ∙ w_of in
    let walked' : r.desk.walked ≡ i ∷ rest = ap (λ (z : WorkView). z.walked) (sym desk_is) ∙ walked in let end' : r.desk.cursor ≡ 0 = ap (λ (z : WorkView). z.cursor) (sym desk_is) ∙ end in let bare' : r.desk.held ≡ Bare = ap (λ (z : WorkView). z.held) (sym desk_is) ∙ bare in
    let t = r.work.walked in let sum = t.1 in let marks = r.chain.marks in let m₂ = marks.2 in
    let walk_is : r.walk ≡ r.from = below_zero r.log r.from r.walk r.desk.cursor end' r.work.cursor in
    let m_is : t.0 ≡ suc (length rest) = sym (ap length t.2 ∙ length_take_drop t.0 r.walk r.log (omega arith)) ∙ ap length walked' in
    let pend = r.chain.pending r.from (omega arith) (omega arith) in let e : Pushed = pend.0 in let there : get_elem? r.log r.from ≡ some e = pend.1 in
    let list : i ∷ rest ≡ e.slot ∷ map pushed_slot (take (length rest) (drop (suc r.from) r.log)) = sym walked' ∙ (t.2 ∙ (λ j. map pushed_slot (take (m_is j) (drop (walk_is j) r.log))) ∙ ap (λ l. map pushed_slot (take (suc (length rest)) l)) (drop_at r.log r.from e there)) in
    let i_is : i ≡ e.slot = ap first_walked list in
    let tail : tail_of r.desk.walked ≡ map pushed_slot (take (length rest) (drop (r.from + 1) r.log)) = ap tail_of walked' ∙ (ap tail_of list ∙ ap (λ z. map pushed_slot (take (length rest) (drop z r.log))) (let g : suc r.from ≡ r.from + 1 = omega arith in g)) in
    let place = subst (Kept.At r.k room s.words s.homes r.log r.from (r.age e.slot) e.slot) pend.3 (r.slots.each e.slot pend.2) in let b = place.3 in let c : Cell = b.1 in let f_is : b.0 ≡ e = one_at r.log r.from b.0 e b.2 there in
    let turn_is : e.turn ≡ r.age e.slot = ap (λ (z : Pushed). z.turn) (sym f_is) ∙ b.4 in let few = few_claims r e.slot pend.2 in let rm : room ≡ (work_of me.0).room = sym r.work.room_is ∙ ap (λ (z : WorkView). z.room) d_of in
    let kept = subst (λ (z : ℕ × ℕ × ℕ). IsKept room n record { words = set s.words (z.0 + z.1) 0; homes = set s.homes z.1 none; views = set s.views z.2 (OfWork (with_taken r.desk e)) }) (λ j. (sym k_is j, sym i_is j, sym chair_is j))
    (take_kept r e (length rest) there walk_is (omega arith) tail end' bare' turn_is) in (
      OfWork (with_taken r.desk e),
      takes i (Some c),
      ap (get_elem? s.homes) i_is ∙ b.5,
      kept,
      (
        e,
        c,
        sym i_is ∙ ap first_walked (sym walked' ∙ ap (λ (z : WorkView). z.walked) d_of),
        (λ j. (OfWork (with_taken (d_of j) e), (ap first_walked (sym walked' ∙ ap (λ (z : WorkView). z.walked) d_of) j, Some c) ∷ no_cell j)),
        subst (λ z. Kept.CellOf z c) f_is b.6,
        subst (λ z. z ≤ c.packet.bytes.room) rm b.7,
        subst (λ (z : Pushed × ℕ). length z.0.packet.bytes ≤ z.1) (λ j. (f_is j, rm j)) b.8,
        omega arith,
        λ back. subst (IsOldest e) d_of (
          drop (suc r.from) r.log,
          (let o = r.chain.passes r.from e there in let m = r.seats.as_many in omega arith),
          λ p l. mine_known r (subst (λ (z : WorkView). all_back z.passes ≡ true) (sym d_of) back) (r.desk.taken ++ e ∷ drop (suc r.from) r.log)
              (ap (λ l. l ++ e ∷ drop (suc r.from) r.log) r.work.taken ∙ (ap (λ l. take r.from r.log ++ l) (sym (drop_at r.log r.from e there)) ∙ take-append-drop r.from r.log)) p l,
        ),
        quiet_after (set s.words (slots + i) 0) (set s.homes i none) s.views id me.0 (OfWork (with_taken r.desk e)) at kept,
      ),
    )

-- The decoder swaps the head for none.
use Rattle.std.proofs.Common.{◌≡◌, ◌≢◌, ◌⊎◌, ℕ, zero, suc, ◌+◌, ◌-◌, ◌*◌, ◌<◌, ◌≤◌, eqb, Bool, true, false, List, [], ◌∷◌, ◌++◌, length, map, get_or, set, sym, refl, ap, ◌∙◌, subst, arith, inl, inr, ⊎_elim, Option, Some, None, length-set, length-append, take, drop}
use mathlib.Core.Logic.{dite}
use mathlib.Core.Option.{some, none, some-injective, some-ne-none}
use mathlib.Core.Option as maybe
use native.Mathlib.Decide.{ℕ_discrete, dec_le}
use lib.ListN.{get_elem?}
use Rattle.std.proofs.lemmas.List.{take-append-drop}
use Rattle.atomic_table.specs.Table.{State}
use Rattle.ghes_rule.specs.declared.views.Cell.{Cell}
use Rattle.ghes_rule.specs.declared.views.Turn.{Turn}
use Rattle.ghes_rule.specs.declared.views.Pushed.{Pushed}
use Rattle.ghes_rule.specs.declared.views.Stage.{Stage}
use Rattle.ghes_rule.specs.declared.views.Stage.TheVariants.{Idle, Holding, Swapped}
use Rattle.ghes_rule.specs.declared.views.Hand.{Hand}
use Rattle.ghes_rule.specs.declared.views.Hand.TheVariants.{Bare, Full}
use Rattle.ghes_rule.specs.declared.views.PassView.{PassView}
use Rattle.ghes_rule.specs.declared.views.WorkView.{WorkView}
use Rattle.ghes_rule.specs.declared.views.View.{View}
use Rattle.ghes_rule.specs.declared.views.View.TheVariants.{OfPass, OfWork, Spent}
use Rattle.ghes_rule.specs.Kept.{Spot, free, with_pass, waits, at_desk, busy, In, when, sum_to, count, count_in, of_pass, turn, IsBelow, Slots, InStage, PassOk, Counts, Linked, Chain, InHand, DeskOk, Knows, Seats, Held, Panic, IsKept}
use Rattle.ghes_rule.specs.Moves.{view_or, view_at, all_back, in_hand, ended_of, Settled}
use Rattle.atomic_table.specs.Table.{Me, Act, keeps, Allows, Splits, Joins, step}
use Rattle.atomic_table.proofs.Lists.{at_set, set_here, set_else, set_again, at_snoc, at_longer, at_last}
use lib.Seq.{set-get_or}
use Rattle.ghes_rule.specs.Moves.{Sat, pass_of, work_of, first_back, joined, join_views, without_first, let_out, split_left, split_right, ended_if, tab, told_settled}
use Rattle.std.proofs.Common.{◌/◌, ◌%◌, bit_or, vec_capacity, get_or-set_same, get_or-set_other}
use Rattle.std.proofs.lemmas.Nat.{or_disjoint}
use Rattle.atomic_table.specs.Table.{takes, gives, stepped}
use Rattle.ghes_rule.specs.Kept.{pushed_slot}
use Rattle.ghes_rule.specs.Kept
use Rattle.ghes_rule.specs.Moves.{with_claim, with_found, without_claim, HasEmpty, tried, freed}
use Rattle.std.proofs.lemmas.List.{take-append-le}
use Rattle.ghes_rule.specs.Moves.{with_chain, with_link, with_taken, with_given, detached, walked_on, took, took_first, gave, tail_of, first_walked, hand_slot}
use Rattle.std.proofs.lemmas.List.{take_all}
use Rattle.ghes_rule.specs.Moves.{AllTaken, IsOldest}
use Rattle.atomic_table.proofs.Lists.{drop_at}
use Rattle.ghes_rule.proofs.Frames.{seats_work, panic_same}
use Rattle.ghes_rule.proofs.Quiet.{waits_at}
use Rattle.ghes_rule.proofs.Keeps.{longer_self, at_keep, stage_keep, below_zero, linked_keep}
use Rattle.ghes_rule.proofs.BackLemmas.{quiet_after}
use Rattle.ghes_rule.proofs.DeskLemmas.{SameDesk, desk_keep, below_le, mine_known, nothing_held_back}

module _ {room n : ℕ} {s : State (Option Cell) View} (r : IsKept room n s) where
  detach_kept : (w' : WorkView) → SameDesk r.desk w' → w'.walked ≡ [] → w'.cursor ≡ get_or s.words (2 * r.k) 0 → r.desk.walked ≡ [] → r.desk.cursor ≡ 0 → r.desk.held ≡ Bare
      → IsKept room n record { words = set s.words (2 * r.k) 0; homes = s.homes; views = set s.views r.chair (OfWork w') }
  detach_kept w' same none' cursor bare_walk end bare = let flat = nothing_held_back r bare_walk end in let f₀ = flat.0 in let f₁ = flat.1 in let marks = r.chain.marks in let m₂ = marks.2 in let wide = r.slots.wide in
      let link : (i : ℕ) → i < r.k → get_or (set s.words (2 * r.k) 0) (r.k + i) 0 ≡ get_or s.words (r.k + i) 0 = λ i l. get_or-set_other s.words (2 * r.k) (r.k + i) 0 0 (λ e. omega arith) in
      let g = longer_self r.log in
      record {
        k = r.k;
        spot = r.spot;
        age = r.age;
        pass = r.pass;
        seat = r.seat;
        desk = w';
        chair = r.chair;
        log = r.log;
        from = r.from;
        walk = length r.log;
        top = length r.log;
        slots = record {
          wide = length-set s.words (2 * r.k) 0 ∙ wide;
          deep = r.slots.deep;
          each = λ i l. at_keep r.k room s.words (set s.words (2 * r.k) 0) s.homes s.homes r.log r.log r.from r.from (r.age i) i (r.spot i) (get_or-set_other s.words (2 * r.k) i 0 0 (λ e. omega arith)) (λ _. link i l) refl g (λ _ _ z. z) (r.slots.each i l);
        };
        passes = λ q l. let o = r.passes q l in record {
          number = o.number;
          room_is = o.room_is;
          stage = stage_keep r.k q s.words (set s.words (2 * r.k) 0) r.log r.log r.age r.age r.spot r.spot (r.pass q).stage g (λ _ _ _. (refl, refl)) (λ j t e b w z at _. (refl, link j b ∙ z)) o.stage;
          mine = o.mine;
          since = o.since;
        };
        held = r.held;
        counts = r.counts;
        chain = record {
          marks = (omega arith, omega arith, omega arith);
          passes = r.chain.passes;
          pending = r.chain.pending;
          rest = λ t a b. linked_keep r.k s.words (set s.words (2 * r.k) 0) r.log r.log r.pass r.pass r.from t g (λ e at. link e.slot (waits_at r.chain t e a at).0) (λ _ _ _ _. refl)
              (subst (λ z. Linked r.k s.words r.log r.pass z t) f₁ (r.chain.hangs t (omega arith) b));
          walked = λ t e a b h. absurd (omega arith);
          hangs = λ t a b. absurd (omega arith);
          head = inl (refl, get_or-set_same s.words (2 * r.k) 0 0 (omega arith));
        };
        work = desk_keep (length r.log) (length r.log) w' r.work same
            (subst (λ (z : ℕ × ℕ). IsBelow r.log z.0 (length r.log) z.1) (λ j. (f₁ j, sym cursor j)) r.chain.head)
            (0, omega arith, none') (λ i h e. absurd (bare_full i h (sym bare ∙ (sym same.held ∙ e))));
        seats = seats_work r.seats w' same.passes;
        panic = panic_same (get_or-set_other s.words (2 * r.k) (2 * r.k + 1) 0 0 (λ e. omega arith)) (λ _. refl) (λ _. refl) same.loads r.panic;
      }
    where
      bare_full : (i h : ℕ) → Bare ≡ Full i h → ⊥
      bare_full i h e = let q : code Bare ≡ code (Full i h) = ap code e in absurd (omega arith)
        where
          code : Hand → ℕ
          code Bare = 0
          code (Full i g) = 1

pub detaches : (room n slots id : ℕ) (me : Sat) (w : WorkView) → me.0 ≡ OfWork w → w.walked ≡ [] → w.cursor ≡ 0 → w.held ≡ Bare → Allows (IsKept room n) slots id me (2 * slots) (λ _. 0) (detached (step slots (2 * slots) 0 0 none) me)
detaches room n slots id me w is none_walked end bare s r deep at _ =
    let know = r.seats.each id (OfWork w) (at ∙ ap some is) in let chair_is : id ≡ r.chair = know.0 in let desk_is : w ≡ r.desk = know.1 in let k_is : slots ≡ r.k = sym deep ∙ r.slots.deep in
    let x : ℕ = get_or s.words (2 * slots) 0 in let x_is : x ≡ get_or s.words (2 * r.k) 0 = ap (λ z. get_or s.words (2 * z) 0) k_is in let w_of : w ≡ work_of me.0 = ap work_of (sym is) in let desk_of : r.desk ≡ work_of me.0 = sym desk_is ∙ w_of in
    let kept = subst (λ (z : ℕ × ℕ × WorkView). IsKept room n record { words = set s.words (2 * z.0) 0; homes = s.homes; views = set s.views z.1 (OfWork (with_chain z.2 x)) }) (λ j. (sym k_is j, sym chair_is j, sym desk_is j))
    (go x x_is (subst (λ (z : WorkView). z.walked ≡ []) desk_is none_walked) (subst (λ (z : WorkView). z.cursor ≡ 0) desk_is end) (subst (λ (z : WorkView). z.held ≡ Bare) desk_is bare)) in (
      OfWork (with_chain w x),
      keeps,
      tt,
      kept,
      (
        ap (λ z. (OfWork (with_chain z x), me.1)) w_of,
        (let flat = nothing_held_back r (ap (λ (z : WorkView). z.walked) (sym desk_is) ∙ none_walked) (ap (λ (z : WorkView). z.cursor) (sym desk_is) ∙ end) in let f₁ = flat.1 in let b = below_le r r.top (length r.log) x (omega arith) (subst (IsBelow r.log r.top (length r.log)) (sym x_is) r.chain.head) in omega arith),
        λ zero_is back. subst AllTaken (desk_of) (λ p l. mine_known r (subst (λ (z : WorkView). all_back z.passes ≡ true) (sym desk_of) back) r.desk.taken
            (let flat = nothing_held_back r (ap (λ (z : WorkView). z.walked) (sym desk_is) ∙ none_walked) (ap (λ (z : WorkView). z.cursor) (sym desk_is) ∙ end) in
            r.work.taken ∙ (ap (λ z. take z r.log) (sym flat.1 ∙ sym (below_zero r.log r.top (length r.log) x zero_is (subst (IsBelow r.log r.top (length r.log)) (sym x_is) r.chain.head))) ∙ take_all (length r.log) r.log (omega arith))) p l),
        quiet_after (set s.words (2 * slots) 0) s.homes s.views id me.0 (OfWork (with_chain w x)) at kept,
      ),
    )
  where
    go : (x : ℕ) → x ≡ get_or s.words (2 * r.k) 0 → r.desk.walked ≡ [] → r.desk.cursor ≡ 0 → r.desk.held ≡ Bare → IsKept room n record { words = set s.words (2 * r.k) 0; homes = s.homes; views = set s.views r.chair (OfWork (with_chain r.desk x)) }
    go zero e a b c = detach_kept r (with_chain r.desk 0) record { room = refl; held = refl; taken = refl; ended = refl; passes = refl; loads = refl } a (b ∙ e) a b c
    go (suc i) e a b c = detach_kept r (with_chain r.desk (suc i)) record { room = refl; held = refl; taken = refl; ended = refl; passes = refl; loads = refl } a e a b c

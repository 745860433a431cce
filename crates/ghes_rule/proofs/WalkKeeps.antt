-- The decoder loads the link at its cursor.
use Rattle.std.proofs.Common.{◌≡◌, ◌≢◌, ◌⊎◌, ℕ, zero, suc, ◌+◌, ◌-◌, ◌*◌, ◌<◌, ◌≤◌, eqb, Bool, true, false, List, [], ◌∷◌, ◌++◌, length, map, get_or, set, sym, refl, ap, ◌∙◌, subst, arith, inl, inr, ⊎_elim, Option, Some, None, length-set, length-append, take, drop}
use mathlib.Core.Logic.{dite}
use mathlib.Core.Option.{some, none, some-injective, some-ne-none}
use mathlib.Core.Option as maybe
use native.Mathlib.Decide.{ℕ_discrete, dec_le}
use lib.ListN.{get_elem?}
use Rattle.std.proofs.lemmas.List.{take-append-drop}
use Rattle.atomic_table.specs.Table.{State}
use Rattle.ghes_rule.specs.declared.views.Cell.{Cell}
use Rattle.ghes_rule.specs.declared.views.Turn.{Turn}
use Rattle.ghes_rule.specs.declared.views.Pushed.{Pushed}
use Rattle.ghes_rule.specs.declared.views.Stage.{Stage}
use Rattle.ghes_rule.specs.declared.views.Stage.TheVariants.{Idle, Holding, Swapped}
use Rattle.ghes_rule.specs.declared.views.Hand.{Hand}
use Rattle.ghes_rule.specs.declared.views.Hand.TheVariants.{Bare, Full}
use Rattle.ghes_rule.specs.declared.views.PassView.{PassView}
use Rattle.ghes_rule.specs.declared.views.WorkView.{WorkView}
use Rattle.ghes_rule.specs.declared.views.View.{View}
use Rattle.ghes_rule.specs.declared.views.View.TheVariants.{OfPass, OfWork, Spent}
use Rattle.ghes_rule.specs.Kept.{Spot, free, with_pass, waits, at_desk, busy, In, when, sum_to, count, count_in, of_pass, turn, IsBelow, Slots, InStage, PassOk, Counts, Linked, Chain, InHand, DeskOk, Knows, Seats, Held, Panic, IsKept}
use Rattle.ghes_rule.specs.Moves.{view_or, view_at, all_back, in_hand, ended_of, Settled}
use Rattle.atomic_table.specs.Table.{Me, Act, keeps, Allows, Splits, Joins, step}
use Rattle.atomic_table.proofs.Lists.{at_set, set_here, set_else, set_again, at_snoc, at_longer, at_last}
use lib.Seq.{set-get_or}
use Rattle.ghes_rule.specs.Moves.{Sat, pass_of, work_of, first_back, joined, join_views, without_first, let_out, split_left, split_right, ended_if, tab, told_settled}
use Rattle.std.proofs.Common.{◌/◌, ◌%◌, bit_or, vec_capacity, get_or-set_same, get_or-set_other}
use Rattle.std.proofs.lemmas.Nat.{or_disjoint}
use Rattle.atomic_table.specs.Table.{takes, gives, stepped}
use Rattle.ghes_rule.specs.Kept.{pushed_slot}
use Rattle.ghes_rule.specs.Kept
use Rattle.ghes_rule.specs.Moves.{with_claim, with_found, without_claim, HasEmpty, tried, freed}
use Rattle.std.proofs.lemmas.List.{take-append-le}
use Rattle.ghes_rule.specs.Moves.{with_chain, with_link, with_taken, with_given, detached, walked_on, took, took_first, gave, tail_of, first_walked, hand_slot}
use Rattle.std.proofs.lemmas.List.{take_all}
use Rattle.ghes_rule.specs.Moves.{AllTaken, IsOldest}
use Rattle.atomic_table.proofs.Lists.{drop_at}
use Rattle.ghes_rule.proofs.Puts.{one_at}
use Rattle.ghes_rule.proofs.Frames.{seats_work, panic_same}
use Rattle.ghes_rule.proofs.Quiet.{not_swapped}
use Rattle.ghes_rule.proofs.Keeps.{below_some, length_take_drop}
use Rattle.ghes_rule.proofs.BackLemmas.{same_views, quiet_after}
use Rattle.ghes_rule.proofs.DeskLemmas.{SameDesk, IsWalked, desk_keep, pending_short, below_le}

-- k6
pub walks : (room n slots id i : ℕ) (me : Sat) (w : WorkView) → me.0 ≡ OfWork w → w.cursor ≡ suc i → Allows (IsKept room n) slots id me (slots + i) (λ x. x) (walked_on (step slots (slots + i) 0 0 none) me)
walks room n slots id i me w is cursor_is s r deep at _ =
    let know = r.seats.each id (OfWork w) (at ∙ ap some is) in let chair_is : id ≡ r.chair = know.0 in let desk_is : w ≡ r.desk = know.1 in let k_is : slots ≡ r.k = sym deep ∙ r.slots.deep in
    let x : ℕ = get_or s.words (slots + i) 0 in let x_is : x ≡ get_or s.words (r.k + i) 0 = ap (λ z. get_or s.words (z + i) 0) k_is in let w_of : w ≡ work_of me.0 = ap work_of (sym is) in let desk_of : r.desk ≡ work_of me.0 = sym desk_is ∙ w_of in
    let c₀ : r.desk.cursor ≡ suc i = ap (λ (z : WorkView). z.cursor) (sym desk_is) ∙ cursor_is in let at_cursor = below_some r.log r.from r.walk i (subst (IsBelow r.log r.from r.walk) c₀ r.work.cursor) in
    let u_is = at_cursor.2 in let u_low = at_cursor.3 in let t = r.work.walked in let sum = t.1 in let marks = r.chain.marks in let m₂ = marks.2 in
    let linked = r.chain.rest at_cursor.0 at_cursor.3 (omega arith) in let slot_is : i ≡ linked.0.slot = at_cursor.5 ∙ ap pushed_slot (one_at r.log at_cursor.0 at_cursor.1 linked.0 at_cursor.4 linked.1) in
    let top_link : (y : ℕ) → y ≡ get_or s.words (r.k + i) 0 → y ≤ slots + 1 = λ y y_is. ⊎_elim (λ a. let q = ap (λ z. get_or s.words (r.k + z) 0) slot_is in let a₀ = a.0 in omega arith)
    (λ a. let q = ap (λ z. get_or s.words (r.k + z) 0) slot_is in let a₁ = a.1 in let b = below_le r r.from at_cursor.0 a.0 (omega arith) a.2 in omega arith) linked.2 in
    let kept = subst (λ (z : List ℕ × ℕ × WorkView). IsKept room n record { words = z.0; homes = s.homes; views = set s.views z.1 (OfWork (with_link z.2 x)) }) (λ j. (sym (set-get_or s.words (slots + i) 0) j, sym chair_is j, sym desk_is j))
    (go x x_is (subst (λ (z : WorkView). z.cursor ≡ suc i) desk_is cursor_is)) in (
      OfWork (with_link w x),
      keeps,
      tt,
      kept,
      (
        ap (λ z. (OfWork (with_link z x), me.1)) w_of,
        top_link x x_is,
        (let len = ap length t.2 ∙ length_take_drop t.0 r.walk r.log (omega arith) in let pend = pending_short r in let z = ap (λ (z : WorkView). length z.walked) desk_of in let c = at_cursor.2 in let c' = at_cursor.3 in omega arith),
        λ back zero_is. ⊎_elim
            (λ a. not_swapped (r.pass linked.0.pass).stage linked.0.slot a.1.0 (same_views r (subst (λ (z : WorkView). all_back z.passes ≡ true) (sym desk_of) back) linked.0.pass (r.chain.passes at_cursor.0 linked.0 linked.1)).1 a.1.1)
            (λ a. let y : get_or s.words (r.k + i) 0 ≡ a.0 + 1 = ap (λ z. get_or s.words (r.k + z) 0) slot_is ∙ a.1 in omega arith) linked.2,
        quiet_after (set s.words (slots + i) (get_or s.words (slots + i) 0)) s.homes s.views id me.0 (OfWork (with_link w x)) at kept,
      ),
    )
  where
    same_words : (w' : WorkView) (walk' : ℕ) → SameDesk r.desk w' → (r.from ≤ walk') × (walk' ≤ r.walk) → ((t : ℕ) (e : Pushed) → walk' ≤ t → t < r.walk → get_elem? r.log t ≡ some e → get_or s.words (r.k + e.slot) 0 ≢ 0)
        → IsBelow r.log r.from walk' w'.cursor → IsWalked r.log walk' r.top w'.walked → ((i g : ℕ) → w'.held ≡ Full i g → w'.cursor ≡ 0) → IsKept room n record { words = s.words; homes = s.homes; views = set s.views r.chair (OfWork w') }
    same_words w' walk' same low set_link below walked end = let m = r.chain.marks in let m₁ = m.1 in let l₀ = low.0 in let l₁ = low.1 in record {
      k = r.k;
      spot = r.spot;
      age = r.age;
      pass = r.pass;
      seat = r.seat;
      desk = w';
      chair = r.chair;
      log = r.log;
      from = r.from;
      walk = walk';
      top = r.top;
      slots = r.slots;
      passes = r.passes;
      held = r.held;
      counts = r.counts;
      chain = record {
        marks = (l₀, omega arith, m.2);
        passes = r.chain.passes;
        pending = r.chain.pending;
        rest = λ t a b. r.chain.rest t a (omega arith);
        walked = λ t e a b h. dite (dec_le r.walk t) (λ c. r.chain.walked t e c b h) (λ c. set_link t e a (omega arith) h);
        hangs = r.chain.hangs;
        head = r.chain.head;
      };
      work = desk_keep walk' r.top w' r.work same below walked end;
      seats = seats_work r.seats w' same.passes;
      panic = panic_same refl (λ _. refl) (λ _. refl) same.loads r.panic;
    }

    go : (x : ℕ) → x ≡ get_or s.words (r.k + i) 0 → r.desk.cursor ≡ suc i → IsKept room n record { words = s.words; homes = s.homes; views = set s.views r.chair (OfWork (with_link r.desk x)) }
    go zero e c = let m = r.chain.marks in same_words (with_link r.desk 0) r.walk record { room = refl; held = refl; taken = refl; ended = refl; passes = refl; loads = refl } (m.0, omega arith) (λ t f a b. absurd (omega arith)) r.work.cursor r.work.walked r.work.hand_end
    go (suc v) e c = let at_cursor = below_some r.log r.from r.walk i (subst (IsBelow r.log r.from r.walk) c r.work.cursor) in let u : ℕ = at_cursor.0 in let f : Pushed = at_cursor.1 in let u_is : r.walk ≡ u + 1 = at_cursor.2 in let low : r.from ≤ u = at_cursor.3 in
        let there : get_elem? r.log u ≡ some f = at_cursor.4 in let slot_is : i ≡ f.slot = at_cursor.5 in let linked = r.chain.rest u low (omega arith) in let same : linked.0 ≡ f = one_at r.log u linked.0 f linked.1 there in
        let word : get_or s.words (r.k + f.slot) 0 ≡ suc v = ap (λ z. get_or s.words (r.k + z) 0) (sym slot_is) ∙ sym e in let t = r.work.walked in let m : ℕ = t.0 in let sum = t.1 in
        let below : IsBelow r.log r.from u v = ⊎_elim (λ a. absurd (let z : get_or s.words (r.k + f.slot) 0 ≡ 0 = ap (λ (q : Pushed). get_or s.words (r.k + q.slot) 0) (sym same) ∙ a.0 in omega arith))
        (λ a. let z : get_or s.words (r.k + f.slot) 0 ≡ a.0 + 1 = ap (λ (q : Pushed). get_or s.words (r.k + q.slot) 0) (sym same) ∙ a.1 in let y : a.0 ≡ v = omega arith in subst (IsBelow r.log r.from u) y a.2) linked.2 in
        same_words (with_link r.desk (suc v)) u record { room = refl; held = refl; taken = refl; ended = refl; passes = refl; loads = refl } (low, omega arith)
        (λ t' g a b h z. let q : t' ≡ u = omega arith in let g_is : g ≡ f = one_at r.log u g f (subst (λ y. get_elem? r.log y ≡ some g) q h) there in let y = ap (λ (d : Pushed). get_or s.words (r.k + d.slot) 0) (sym g_is) in omega arith)
        below
        (suc m, omega arith, λ j. walked_list u f m there slot_is u_is t.2 c j)
        (λ h g full. absurd (let z = r.work.hand_end h g full in omega arith))
      where
        walked_list : (u : ℕ) (f : Pushed) (m : ℕ) → get_elem? r.log u ≡ some f → i ≡ f.slot → r.walk ≡ u + 1 → r.desk.walked ≡ map pushed_slot (take m (drop r.walk r.log)) → r.desk.cursor ≡ suc i
            → (r.desk.cursor - 1) ∷ r.desk.walked ≡ map pushed_slot (take (suc m) (drop u r.log))
        walked_list u f m there slot_is u_is old c = (λ j. (let q : r.desk.cursor - 1 ≡ f.slot = (let z = c in omega arith) in q) j ∷ (old ∙ ap (λ z. map pushed_slot (take m (drop z r.log))) (u_is ∙ (let g : u + 1 ≡ suc u = omega arith in g))) j)
            ∙ ap (λ l. map pushed_slot (take (suc m) l)) (sym (drop_at r.log u f there))

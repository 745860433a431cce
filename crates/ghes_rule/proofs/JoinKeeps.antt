-- A pass that holds nothing ends.
use Rattle.std.proofs.Common.{◌≡◌, ◌≢◌, ◌⊎◌, ℕ, zero, suc, ◌+◌, ◌-◌, ◌*◌, ◌<◌, ◌≤◌, eqb, Bool, true, false, List, [], ◌∷◌, ◌++◌, length, map, get_or, set, sym, refl, ap, ◌∙◌, subst, arith, inl, inr, ⊎_elim, Option, Some, None, length-set, length-append, take, drop}
use mathlib.Core.Logic.{dite}
use mathlib.Core.Option.{some, none, some-injective, some-ne-none}
use mathlib.Core.Option as maybe
use native.Mathlib.Decide.{ℕ_discrete, dec_le}
use lib.ListN.{get_elem?}
use Rattle.std.proofs.lemmas.List.{take-append-drop}
use Rattle.atomic_table.specs.Table.{State}
use Rattle.ghes_rule.specs.declared.views.Cell.{Cell}
use Rattle.ghes_rule.specs.declared.views.Turn.{Turn}
use Rattle.ghes_rule.specs.declared.views.Pushed.{Pushed}
use Rattle.ghes_rule.specs.declared.views.Stage.{Stage}
use Rattle.ghes_rule.specs.declared.views.Stage.TheVariants.{Idle, Holding, Swapped}
use Rattle.ghes_rule.specs.declared.views.Hand.{Hand}
use Rattle.ghes_rule.specs.declared.views.Hand.TheVariants.{Bare, Full}
use Rattle.ghes_rule.specs.declared.views.PassView.{PassView}
use Rattle.ghes_rule.specs.declared.views.WorkView.{WorkView}
use Rattle.ghes_rule.specs.declared.views.View.{View}
use Rattle.ghes_rule.specs.declared.views.View.TheVariants.{OfPass, OfWork, Spent}
use Rattle.ghes_rule.specs.Kept.{Spot, free, with_pass, waits, at_desk, busy, In, when, sum_to, count, count_in, of_pass, turn, IsBelow, Slots, InStage, PassOk, Counts, Linked, Chain, InHand, DeskOk, Knows, Seats, Held, Panic, IsKept}
use Rattle.ghes_rule.specs.Moves.{view_or, view_at, all_back, in_hand, ended_of, Settled}
use Rattle.atomic_table.specs.Table.{Me, Act, keeps, Allows, Splits, Joins, step}
use Rattle.atomic_table.proofs.Lists.{at_set, set_here, set_else, set_again, at_snoc, at_longer, at_last}
use lib.Seq.{set-get_or}
use Rattle.ghes_rule.specs.Moves.{Sat, pass_of, work_of, first_back, joined, join_views, without_first, let_out, split_left, split_right, ended_if, tab, Quietly, told_settled}
use Rattle.ghes_rule.proofs.Puts.{at_below, one_at, put, put_at, put_else, tab_length, tab_at}
use Rattle.ghes_rule.proofs.Frames.{chair_apart, panic_same}
use Rattle.ghes_rule.proofs.Quiet.{recount}
use Rattle.ghes_rule.proofs.BackLemmas.{all_back_at, back_all, some_none, numbers}

-- a pass that holds nothing ends
pub joins : (room n id : ℕ) (d : View) (w : WorkView) (other : ℕ) (e : View) (v : PassView) → d ≡ OfWork w → e ≡ OfPass v → v.stage ≡ Idle
    → Joins (IsKept room n) id d other e (join_views d e) Spent
joins room n id d w other e v is_work is_pass idle s r at apart there =
    let know = r.seats.each id (OfWork w) (at ∙ ap some is_work) in let chair_is : id ≡ r.chair = know.0 in let desk_is : w ≡ r.desk = know.1 in
    let there' : get_elem? s.views other ≡ some (OfPass v) = sym (set_else s.views id other (join_views d e) apart) ∙ (there ∙ ap some is_pass) in
    let knows = r.seats.each other (OfPass v) there' in let p : ℕ = v.number in let inside : p < n = knows.0 in let seat_is : r.seat p ≡ other + 1 = knows.1 in let pass_is : r.pass p ≡ v = knows.2 in
    let both_is : join_views d e ≡ OfWork (joined r.desk v) = (λ j. join_views (is_work j) (is_pass j)) ∙ ap (λ z. OfWork (joined z v)) desk_is in
    subst (λ (z : View × ℕ). IsKept room n record { words = s.words; homes = s.homes; views = set (set s.views z.1 z.0) other Spent }) (λ j. (sym both_is j, sym chair_is j)) (kept other v p refl inside seat_is pass_is there' idle)
  where
    kept : (other : ℕ) (v : PassView) (p : ℕ) → p ≡ v.number → p < n → r.seat p ≡ other + 1 → r.pass p ≡ v → get_elem? s.views other ≡ some (OfPass v) → v.stage ≡ Idle
        → IsKept room n record { words = s.words; homes = s.homes; views = set (set s.views r.chair (OfWork (joined r.desk v))) other Spent }
    kept other v p p_is inside seat_is pass_is there idle =
        let seat' : ℕ → ℕ = put r.seat p 0 in let w' : WorkView = joined r.desk v in let ps : List (Option PassView) = set r.desk.passes v.number (Some v) in
        let many : length ps ≡ n = length-set r.desk.passes v.number (Some v) ∙ r.seats.as_many in
        let at_p : get_elem? ps p ≡ some (Some v) = subst (λ q. get_elem? ps q ≡ some (Some v)) (sym p_is) (set_here r.desk.passes v.number (Some v) (let a = r.seats.as_many in omega arith)) in
        let at_else : (q : ℕ) → q ≢ p → get_elem? ps q ≡ get_elem? r.desk.passes q = λ q ne. set_else r.desk.passes v.number q (Some v) (λ e. ne (e ∙ sym p_is)) in
        let seat_else : (q : ℕ) → q ≢ p → seat' q ≡ r.seat q = λ q ne. put_else r.seat p 0 q ne in
        let seat_out : (q : ℕ) → 0 < seat' q → q ≢ p = λ q pos e. let z = put_at r.seat p 0 q e in omega arith in
        let ended : (q : ℕ) → q < n → seat' q ≡ 0 → (get_elem? ps q ≡ some (Some (r.pass q))) × ((r.pass q).stage ≡ Idle) = λ q l z.
        dite (ℕ_discrete q p) (λ e. let same : r.pass q ≡ v = ap r.pass e ∙ pass_is in (ap (get_elem? ps) e ∙ (at_p ∙ ap (λ x. some (Some x)) (sym same)), ap (λ x. x.stage) same ∙ idle))
        (λ ne. let o = r.seats.ended q l (sym (seat_else q ne) ∙ z) in (at_else q ne ∙ o.0, o.1)) in
        let out : (q : ℕ) → q < n → 0 < seat' q → get_elem? ps q ≡ some None = λ q l pos. let ne = seat_out q pos in at_else q ne ∙ r.seats.out q l (subst (λ x. 0 < x) (seat_else q ne) pos) in
        let quiet : all_back ps ≡ true → (q : ℕ) → q < n → seat' q ≡ 0 = λ h q l. dite (ℕ_discrete (seat' q) 0) (λ z. z)
        (λ ne. absurd (some_none (view_at ps q) (sym (out q l (omega arith)) ∙ all_back_at ps h q (omega arith)))) in
        let loud : ((q : ℕ) → q < n → seat' q ≡ 0) → all_back ps ≡ true = λ h. back_all ps (λ q l. let l' : q < n = omega arith in (r.pass q, (ended q l' (h q l')).0)) in
        let right : all_back ps ≡ true → (i : ℕ) → i < r.k → get_or (tab 0 (length r.desk.ended) (ended_of ps r.desk.taken r.desk.held)) i 0 ≡ r.age i = λ h i l. let len = r.work.as_long in
        tab_at 0 (length r.desk.ended) (ended_of ps r.desk.taken r.desk.held) i (omega arith) ∙ (ap (ended_of ps r.desk.taken r.desk.held) (let g : 0 + i ≡ i = omega arith in g)
        ∙ recount r ps many (λ q m. ap view_or (ended q m (quiet h q m)).0) (λ q m. (ended q m (quiet h q m)).1) i l) in
        let Fits : List ℕ → Type 0 = λ xs. (length xs ≡ r.k) × ((i : ℕ) → i < r.k → get_or xs i 0 ≤ r.age i) × (((q : ℕ) → q < n → seat' q ≡ 0) → (i : ℕ) → i < r.k → get_or xs i 0 ≡ r.age i) in
        let fits : (b : Bool) → all_back ps ≡ b → Fits (ended_if b (tab 0 (length r.desk.ended) (ended_of ps r.desk.taken r.desk.held)) r.desk.ended) = by_case seat' ps right loud in
        let f = fits (all_back ps) refl in record {
          k = r.k;
          spot = r.spot;
          age = r.age;
          pass = r.pass;
          seat = seat';
          desk = w';
          chair = r.chair;
          log = r.log;
          from = r.from;
          walk = r.walk;
          top = r.top;
          slots = r.slots;
          passes = r.passes;
          held = r.held;
          counts = r.counts;
          chain = r.chain;
          work = record {
            room_is = r.work.room_is;
            cursor = r.work.cursor;
            walked = r.work.walked;
            taken = r.work.taken;
            hand = r.work.hand;
            hand_end = r.work.hand_end;
            desk = r.work.desk;
            holder = r.work.holder;
            as_long = f.0;
            ended = f.1;
            all_ended = f.2;
          };
          seats = record {
            as_many = many;
            out = out;
            ended = ended;
            there = set_else (set s.views r.chair (OfWork w')) other r.chair Spent (chair_apart r.seats other v there) ∙ set_here s.views r.chair (OfWork w') (Rattle.ghes_rule.proofs.Puts.at_below s.views r.chair (OfWork r.desk) r.seats.there);
            live = λ q l pos. let ne = seat_out q pos in let same = seat_else q ne in let old = r.seats.live q l (subst (λ x. 0 < x) same pos) in
                let apart_other : r.seat q - 1 ≢ other = λ e. ne (sym (numbers r q l) ∙ (ap (λ z. (pass_of z).number) (one_at s.views other (OfPass (r.pass q)) (OfPass v) (subst (λ x. get_elem? s.views x ≡ some (OfPass (r.pass q))) e old) there) ∙ sym p_is)) in
                ap (λ x. get_elem? (set (set s.views r.chair (OfWork w')) other Spent) (x - 1)) same ∙ (set_else (set s.views r.chair (OfWork w')) other (r.seat q - 1) Spent apart_other
                ∙ (set_else s.views r.chair (r.seat q - 1) (OfWork w') (λ e. chair_apart r.seats (r.seat q - 1) (r.pass q) old (sym e)) ∙ old));
            each = λ j z at. ⊎_elim (λ (t : (j ≡ other) × (Spent ≡ z)). subst (Knows n seat' r.pass r.chair w' j) t.1 tt)
                (λ (t : (j ≢ other) × (get_elem? (set s.views r.chair (OfWork w')) j ≡ some z)). ⊎_elim (λ (u : (j ≡ r.chair) × (OfWork w' ≡ z)). subst (Knows n seat' r.pass r.chair w' j) u.1 (u.0, refl))
                (λ (u : (j ≢ r.chair) × (get_elem? s.views j ≡ some z)). others seat' w' p other seat_is (λ q ne. seat_else q ne) j z t.0 u.0 (r.seats.each j z u.1)) (at_set s.views r.chair j (OfWork w') z t.1))
                (at_set (set s.views r.chair (OfWork w')) other j Spent z at);
          };
          panic = panic_same refl (λ _. refl) (λ _. refl) refl r.panic;
        }
      where
        others : (seat' : ℕ → ℕ) (w' : WorkView) (p other : ℕ) → r.seat p ≡ other + 1 → ((q : ℕ) → q ≢ p → seat' q ≡ r.seat q) → (j : ℕ) (z : View) → j ≢ other → j ≢ r.chair → Knows n r.seat r.pass r.chair r.desk j z → Knows n seat' r.pass r.chair w' j z
        others seat' w' p other here same j (OfPass x) a b k = let k₁ : r.seat x.number ≡ j + 1 = k.1 in (k.0, same x.number (λ e. a (let c = ap r.seat e in omega arith)) ∙ k.1, k.2)
        others seat' w' p other here same j (OfWork x) a b k = absurd (b k.0)
        others seat' w' p other here same j Spent a b k = tt

        by_case : (seat' : ℕ → ℕ) (ps : List (Option PassView)) → (all_back ps ≡ true → (i : ℕ) → i < r.k → get_or (tab 0 (length r.desk.ended) (ended_of ps r.desk.taken r.desk.held)) i 0 ≡ r.age i)
            → (((q : ℕ) → q < n → seat' q ≡ 0) → all_back ps ≡ true)
            → (b : Bool) → all_back ps ≡ b → let xs : List ℕ = ended_if b (tab 0 (length r.desk.ended) (ended_of ps r.desk.taken r.desk.held)) r.desk.ended in (length xs ≡ r.k) × ((i : ℕ) → i < r.k → get_or xs i 0 ≤ r.age i) × (((q : ℕ) → q < n → seat' q ≡ 0) → (i : ℕ) → i < r.k → get_or xs i 0 ≡ r.age i)
        by_case seat' ps right loud true h = (tab_length 0 (length r.desk.ended) (ended_of ps r.desk.taken r.desk.held) ∙ r.work.as_long, (λ i l. let e = right h i l in omega arith), λ _. right h)
        by_case seat' ps right loud false h = (r.work.as_long, r.work.ended, λ all. absurd (let q : code false ≡ code true = ap code (sym h ∙ loud all) in omega arith))
          where
            code : Bool → ℕ
            code false = 0
            code true = 1

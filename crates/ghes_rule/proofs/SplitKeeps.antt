-- The decoder lets its first ended pass out.
use Rattle.std.proofs.Common.{◌≡◌, ◌≢◌, ◌⊎◌, ℕ, zero, suc, ◌+◌, ◌-◌, ◌*◌, ◌<◌, ◌≤◌, eqb, Bool, true, false, List, [], ◌∷◌, ◌++◌, length, map, get_or, set, sym, refl, ap, ◌∙◌, subst, arith, inl, inr, ⊎_elim, Option, Some, None, length-set, length-append, take, drop}
use mathlib.Core.Logic.{dite}
use mathlib.Core.Option.{some, none, some-injective, some-ne-none}
use mathlib.Core.Option as maybe
use native.Mathlib.Decide.{ℕ_discrete, dec_le}
use lib.ListN.{get_elem?}
use Rattle.std.proofs.lemmas.List.{take-append-drop}
use Rattle.atomic_table.specs.Table.{State}
use Rattle.ghes_rule.specs.declared.views.Cell.{Cell}
use Rattle.ghes_rule.specs.declared.views.Turn.{Turn}
use Rattle.ghes_rule.specs.declared.views.Pushed.{Pushed}
use Rattle.ghes_rule.specs.declared.views.Stage.{Stage}
use Rattle.ghes_rule.specs.declared.views.Stage.TheVariants.{Idle, Holding, Swapped}
use Rattle.ghes_rule.specs.declared.views.Hand.{Hand}
use Rattle.ghes_rule.specs.declared.views.Hand.TheVariants.{Bare, Full}
use Rattle.ghes_rule.specs.declared.views.PassView.{PassView}
use Rattle.ghes_rule.specs.declared.views.WorkView.{WorkView}
use Rattle.ghes_rule.specs.declared.views.View.{View}
use Rattle.ghes_rule.specs.declared.views.View.TheVariants.{OfPass, OfWork, Spent}
use Rattle.ghes_rule.specs.Kept.{Spot, free, with_pass, waits, at_desk, busy, In, when, sum_to, count, count_in, of_pass, turn, IsBelow, Slots, InStage, PassOk, Counts, Linked, Chain, InHand, DeskOk, Knows, Seats, Held, Panic, IsKept}
use Rattle.ghes_rule.specs.Moves.{view_or, view_at, all_back, in_hand, ended_of, Settled}
use Rattle.atomic_table.specs.Table.{Me, Act, keeps, Allows, Splits, Joins, step}
use Rattle.atomic_table.proofs.Lists.{at_set, set_here, set_else, set_again, at_snoc, at_longer, at_last}
use lib.Seq.{set-get_or}
use Rattle.ghes_rule.specs.Moves.{Sat, pass_of, work_of, first_back, joined, join_views, without_first, let_out, split_left, split_right, ended_if, tab, told_settled}
use Rattle.ghes_rule.proofs.Puts.{at_below, put, put_at, put_else, put_all, put_field, at_grown}
use Rattle.ghes_rule.proofs.Frames.{counts_same, chain_same, chair_apart, panic_same}
use Rattle.ghes_rule.proofs.BackLemmas.{first_back_at, some_none}

pub splits : (room n id : ℕ) (d : View) (w : WorkView) → d ≡ OfWork w → first_back w.passes < length w.passes → Splits (IsKept room n) id d (split_left d) (split_right d)
splits room n id d w is_work some_back s r at =
    let know = r.seats.each id (OfWork w) (at ∙ ap some is_work) in let chair_is : id ≡ r.chair = know.0 in let desk_is : w ≡ r.desk = know.1 in let d_is : d ≡ OfWork r.desk = is_work ∙ ap (λ z. OfWork z) desk_is in
    subst (λ (z : View × ℕ). IsKept room n record { words = s.words; homes = s.homes; views = set s.views z.1 (split_left z.0) ++ split_right z.0 ∷ [] }) (λ j. (sym d_is j, sym chair_is j))
    (kept (subst (λ (z : WorkView). first_back z.passes < length z.passes) desk_is some_back))
  where
    others : (seat' : ℕ → ℕ) (pass' : ℕ → PassView) (w' : WorkView) (p : ℕ) → r.seat p ≡ 0 → ((q : ℕ) → q ≢ p → seat' q ≡ r.seat q) → ((q : ℕ) → q ≢ p → pass' q ≡ r.pass q)
        → (j : ℕ) (z : View) → j ≢ r.chair → Knows n r.seat r.pass r.chair r.desk j z → Knows n seat' pass' r.chair w' j z
    others seat' pass' w' p was seats passes j (OfPass x) ne k = let k₁ : r.seat x.number ≡ j + 1 = k.1 in let apart : x.number ≢ p = λ e. let c = ap r.seat e in omega arith in
        (k.0, seats x.number apart ∙ k.1, passes x.number apart ∙ k.2)
    others seat' pass' w' p was seats passes j (OfWork x) ne k = absurd (ne k.0)
    others seat' pass' w' p was seats passes j Spent ne k = tt

    kept : first_back r.desk.passes < length r.desk.passes → IsKept room n record { words = s.words; homes = s.homes; views = set s.views r.chair (OfWork (without_first r.desk)) ++ OfPass (let_out r.desk) ∷ [] }
    kept some_back =
        let p : ℕ = first_back r.desk.passes in let many = r.seats.as_many in let inside : p < n = omega arith in let old : PassView = view_at r.desk.passes p in let stands = first_back_at r.desk.passes some_back in
        let was : r.seat p ≡ 0 = dite (ℕ_discrete (r.seat p) 0) (λ z. z) (λ ne. absurd (some_none old (sym (r.seats.out p inside (omega arith)) ∙ stands))) in
        let ends = r.seats.ended p inside was in let same_old : old ≡ r.pass p = ap view_or ends.0 in
        let v' : PassView = let_out r.desk in let w' : WorkView = without_first r.desk in let vs : List View = set s.views r.chair (OfWork w') in let last : ℕ = length s.views in
        let long : length vs ≡ last = length-set s.views r.chair (OfWork w') in
        let seat' : ℕ → ℕ = put r.seat p (last + 1) in let pass' : ℕ → PassView = put r.pass p v' in let ps : List (Option PassView) = set r.desk.passes p None in
        let seat_else : (q : ℕ) → q ≢ p → seat' q ≡ r.seat q = λ q ne. put_else r.seat p (last + 1) q ne in
        let pass_else : (q : ℕ) → q ≢ p → pass' q ≡ r.pass q = λ q ne. put_else r.pass p v' q ne in
        let stage_same : (q : ℕ) → (pass' q).stage ≡ (r.pass q).stage = put_field (λ (x : PassView). x.stage) r.pass p v' (ap (λ (x : PassView). x.stage) same_old) in
        let seat_zero : (q : ℕ) → seat' q ≡ 0 → q ≢ p = λ q z e. let a = put_at r.seat p (last + 1) q e in omega arith in
        let out : (q : ℕ) → q < n → 0 < seat' q → get_elem? ps q ≡ some None = λ q l pos. dite (ℕ_discrete q p) (λ e. ap (get_elem? ps) e ∙ set_here r.desk.passes p None some_back)
        (λ ne. set_else r.desk.passes p q None ne ∙ r.seats.out q l (subst (λ x. 0 < x) (seat_else q ne) pos)) in
        record {
          k = r.k;
          spot = r.spot;
          age = r.age;
          pass = pass';
          seat = seat';
          desk = w';
          chair = r.chair;
          log = r.log;
          from = r.from;
          walk = r.walk;
          top = r.top;
          slots = r.slots;
          passes = λ q l. put_all (λ j x. PassOk r.k s.words r.log r.age r.spot j room x) r.pass p v' q
              (λ e. let ok = r.passes p inside in subst (λ j. PassOk r.k s.words r.log r.age r.spot j room v') (sym e) record {
                number = ap (λ (x : PassView). x.number) same_old ∙ ok.number;
                room_is = ap (λ (x : PassView). x.room) same_old ∙ ok.room_is;
                stage = subst (InStage r.k s.words r.log r.age r.spot p) (sym (ap (λ (x : PassView). x.stage) same_old)) ok.stage;
                mine = ap (λ (x : PassView). x.mine) same_old ∙ ok.mine;
                since = r.work.ended;
              })
              (λ _. r.passes q l);
          held = λ i q l e. stage_same q ∙ r.held i q l e;
          counts = counts_same (λ i _. refl) (put_field (λ (x : PassView). x.claims) r.pass p v' (ap (λ (x : PassView). x.claims) same_old)) (put_field (λ (x : PassView). x.found) r.pass p v' (ap (λ (x : PassView). x.found) same_old)) r.counts;
          chain = chain_same stage_same r.chain;
          work = record {
            room_is = r.work.room_is;
            cursor = r.work.cursor;
            walked = r.work.walked;
            taken = r.work.taken;
            hand = r.work.hand;
            hand_end = r.work.hand_end;
            desk = r.work.desk;
            holder = r.work.holder;
            as_long = r.work.as_long;
            ended = r.work.ended;
            all_ended = λ all. absurd (seat_zero p (all p inside) refl);
          };
          seats = record {
            as_many = length-set r.desk.passes p None ∙ many;
            out = out;
            ended = λ q l z. let ne = seat_zero q z in let o = r.seats.ended q l (sym (seat_else q ne) ∙ z) in
                (set_else r.desk.passes p q None ne ∙ (o.0 ∙ ap (λ x. some (Some x)) (sym (pass_else q ne))), stage_same q ∙ o.1);
            there = at_longer vs (OfPass v' ∷ []) r.chair (OfWork w') (set_here s.views r.chair (OfWork w') (Rattle.ghes_rule.proofs.Puts.at_below s.views r.chair (OfWork r.desk) r.seats.there));
            live = λ q l pos. dite (ℕ_discrete q p)
                (λ e. let a = put_at r.seat p (last + 1) q e in ap (λ x. get_elem? (vs ++ OfPass v' ∷ []) (x - 1)) a
                ∙ (ap (get_elem? (vs ++ OfPass v' ∷ [])) (let g : last + 1 - 1 ≡ last = omega arith in g) ∙ (at_last vs (OfPass v') last long ∙ ap (λ x. some (OfPass x)) (sym (put_at r.pass p v' q e)))))
                (λ ne. let o = r.seats.live q l (subst (λ x. 0 < x) (seat_else q ne) pos) in ap (λ x. get_elem? (vs ++ OfPass v' ∷ []) (x - 1)) (seat_else q ne)
                ∙ (at_longer vs (OfPass v' ∷ []) (r.seat q - 1) (OfPass (r.pass q)) (set_else s.views r.chair (r.seat q - 1) (OfWork w') (λ e. chair_apart r.seats (r.seat q - 1) (r.pass q) o (sym e)) ∙ o)
                ∙ ap (λ x. some (OfPass x)) (sym (pass_else q ne))));
            each = λ j z a. ⊎_elim
                (λ (t : get_elem? vs j ≡ some z). ⊎_elim (λ (u : (j ≡ r.chair) × (OfWork w' ≡ z)). subst (Knows n seat' pass' r.chair w' j) u.1 (u.0, refl))
                (λ (u : (j ≢ r.chair) × (get_elem? s.views j ≡ some z)). others seat' pass' w' p was seat_else pass_else j z u.0 (r.seats.each j z u.1)) (at_set s.views r.chair j (OfWork w') z t))
                (λ (t : (j ≡ length vs) × (OfPass v' ≡ z)). let num : v'.number ≡ p = ap (λ (x : PassView). x.number) same_old ∙ (r.passes p inside).number in
                subst (Knows n seat' pass' r.chair w' j) t.1 (subst (λ x. x < n) (sym num) inside, put_at r.seat p (last + 1) v'.number num ∙ (let t₀ = t.0 in omega arith), put_at r.pass p v' v'.number num))
                (at_grown vs (OfPass v') z j a);
          };
          panic = panic_same refl (put_field (λ (x : PassView). x.fatal) r.pass p v' (ap (λ (x : PassView). x.fatal) same_old)) (put_field (λ (x : PassView). x.loads) r.pass p v' (ap (λ (x : PassView). x.loads) same_old)) refl r.panic;
        }

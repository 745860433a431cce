-- A pass or the decoder loads the panic word.
use Rattle.std.proofs.Common.{◌≡◌, ◌≢◌, ◌⊎◌, ℕ, zero, suc, ◌+◌, ◌-◌, ◌*◌, ◌<◌, ◌≤◌, eqb, Bool, true, false, List, [], ◌∷◌, ◌++◌, length, map, get_or, set, sym, refl, ap, ◌∙◌, subst, arith, inl, inr, ⊎_elim, Option, Some, None, length-set, length-append, take, drop}
use mathlib.Core.Logic.{dite}
use mathlib.Core.Option.{some, none, some-injective, some-ne-none}
use mathlib.Core.Option as maybe
use native.Mathlib.Decide.{ℕ_discrete, dec_le}
use lib.ListN.{get_elem?}
use Rattle.std.proofs.lemmas.List.{take-append-drop}
use Rattle.atomic_table.specs.Table.{State}
use Rattle.ghes_rule.specs.declared.views.Cell.{Cell}
use Rattle.ghes_rule.specs.declared.views.PacketView.{PacketView}
use Rattle.ghes_rule.specs.declared.views.Turn.{Turn}
use Rattle.ghes_rule.specs.declared.views.Pushed.{Pushed}
use Rattle.ghes_rule.specs.declared.views.Stage.{Stage}
use Rattle.ghes_rule.specs.declared.views.Stage.TheVariants.{Idle, Holding, Swapped}
use Rattle.ghes_rule.specs.declared.views.Hand.{Hand}
use Rattle.ghes_rule.specs.declared.views.Hand.TheVariants.{Bare, Full}
use Rattle.ghes_rule.specs.declared.views.PassView.{PassView}
use Rattle.ghes_rule.specs.declared.views.WorkView.{WorkView}
use Rattle.ghes_rule.specs.declared.views.View.{View}
use Rattle.ghes_rule.specs.declared.views.View.TheVariants.{OfPass, OfWork, Spent}
use Rattle.ghes_rule.specs.Kept.{Spot, free, with_pass, waits, at_desk, busy, In, when, sum_to, count, count_in, of_pass, turn, IsBelow, Slots, InStage, PassOk, Counts, Linked, Chain, InHand, DeskOk, Knows, Seats, Held, Panic, IsKept}
use Rattle.ghes_rule.specs.Moves.{view_or, view_at, all_back, in_hand, ended_of, Settled}
use Rattle.atomic_table.specs.Table.{Me, Act, keeps, Allows, Splits, Joins, step}
use Rattle.atomic_table.proofs.Lists.{at_set, set_here, set_else, set_again, at_snoc, at_longer, at_last}
use lib.Seq.{set-get_or}
use Rattle.ghes_rule.specs.Moves.{Sat, pass_of, work_of, first_back, joined, join_views, without_first, let_out, split_left, split_right, ended_if, tab, told_settled}
use Rattle.std.proofs.Common.{◌/◌, ◌%◌, bit_or, vec_capacity, get_or-set_same, get_or-set_other}
use Rattle.std.proofs.lemmas.Nat.{or_disjoint}
use Rattle.atomic_table.specs.Table.{takes, gives, stepped}
use Rattle.ghes_rule.specs.Kept.{pushed_slot}
use Rattle.ghes_rule.specs.Kept
use Rattle.ghes_rule.specs.Moves.{with_claim, with_found, without_claim, HasEmpty, tried, freed}
use Rattle.std.proofs.lemmas.Nat.{and_mask}
use Rattle.std.specs.Int.Bits.{or_add_and}
use Rattle.std.proofs.Common.{◌^◌}
use Rattle.std.proofs.Common.{eq-eqb, ne_eqb}
use Rattle.ghes_rule.specs.Moves.{with_load, with_look, with_fatal, looked, overlooked, stopped_with}
use Rattle.ghes_rule.proofs.Puts.{put, put_at, put_else, put_field, in_snoc}
use Rattle.ghes_rule.proofs.Frames.{pass_known, seats_work, counts_same}
use Rattle.ghes_rule.proofs.BackLemmas.{quiet_after}
use Rattle.ghes_rule.proofs.PassLemmas.{pass_looks}

abbrev bool_code : Bool → ℕ
bool_code true = 1
bool_code false = 0

-- a load that answered set found 1
word_set : (x : ℕ) (b : Bool) → eqb x 1 ≡ b → true ≡ b → (x ≡ 0) ⊎ (x ≡ 1) → x ≡ 1
word_set x b is t h = ⊎_elim (λ z. absurd (let a = ne_eqb x 1 (λ e. omega arith) in let q : bool_code true ≡ bool_code false = ap bool_code (t ∙ (sym is ∙ a)) in omega arith)) (λ e. e) h

module _ {room n : ℕ} {s : State (Option Cell) View} (r : IsKept room n s) where
  panic_word : (k slots : ℕ) → k ≡ slots → length s.homes ≡ slots → get_or s.words (2 * k + 1) 0 ≡ get_or s.words (2 * r.k + 1) 0
  panic_word k slots same deep = ap (λ z. get_or s.words (2 * z + 1) 0) (same ∙ (sym deep ∙ r.slots.deep))

  -- a load by the pass p, which knew v
  panic_load : (p : ℕ) (v : PassView) (x : ℕ) → r.pass p ≡ v → p < n → x ≡ get_or s.words (2 * r.k + 1) 0 → Panic r.k n s.words (put r.pass p (with_load v (eqb x 1))) r.desk
  panic_load p v x is l x_is = let v' : PassView = with_load v (eqb x 1) in let w = r.panic.word in
      let fatal : (q : ℕ) → (put r.pass p v' q).fatal ≡ (r.pass q).fatal = put_field (λ (z : PassView). z.fatal) r.pass p v' (ap (λ (z : PassView). z.fatal) (sym is)) in record {
        word = w;
        fatal = λ e. let o = r.panic.fatal e in (o.0, o.1, (o.2.0, fatal o.0 ∙ o.2.1));
        set = λ q y m e. r.panic.set q y m (sym (fatal q) ∙ e);
        loads = λ q m h. dite (ℕ_discrete q p)
            (λ e. ⊎_elim (λ old. r.panic.loads p l (subst (λ (z : PassView). In true z.loads) (sym is) old)) (λ new. sym x_is ∙ word_set x (eqb x 1) refl new (⊎_elim (λ a. inl (x_is ∙ a)) (λ a. inr (x_is ∙ a)) w))
            (in_snoc true v.loads (eqb x 1) (subst (λ (z : PassView). In true z.loads) (put_at r.pass p v' q e) h)))
            (λ ne. r.panic.loads q m (subst (λ (z : PassView). In true z.loads) (put_else r.pass p v' q ne) h));
        desk_loads = r.panic.desk_loads;
      }

  panic_small : (x : ℕ) → x ≡ get_or s.words (2 * r.k + 1) 0 → x ≤ 1
  panic_small x is = ⊎_elim (λ a. omega arith) (λ a. omega arith) r.panic.word

  look_kept : (x : ℕ) → x ≡ get_or s.words (2 * r.k + 1) 0 → IsKept room n record { words = s.words; homes = s.homes; views = set s.views r.chair (OfWork (with_look r.desk (eqb x 1))) }
  look_kept x x_is = record {
    k = r.k;
    spot = r.spot;
    age = r.age;
    pass = r.pass;
    seat = r.seat;
    desk = with_look r.desk (eqb x 1);
    chair = r.chair;
    log = r.log;
    from = r.from;
    walk = r.walk;
    top = r.top;
    slots = r.slots;
    passes = r.passes;
    held = r.held;
    counts = r.counts;
    chain = r.chain;
    work = record {
      room_is = r.work.room_is;
      cursor = r.work.cursor;
      walked = r.work.walked;
      taken = r.work.taken;
      hand = r.work.hand;
      hand_end = r.work.hand_end;
      desk = r.work.desk;
      holder = r.work.holder;
      as_long = r.work.as_long;
      ended = r.work.ended;
      all_ended = r.work.all_ended;
    };
    seats = seats_work r.seats (with_look r.desk (eqb x 1)) refl;
    panic = record {
      word = r.panic.word;
      fatal = r.panic.fatal;
      set = r.panic.set;
      loads = r.panic.loads;
      desk_loads = λ h. ⊎_elim (λ old. r.panic.desk_loads old) (λ new. sym x_is ∙ word_set x (eqb x 1) refl new (⊎_elim (λ a. inl (x_is ∙ a)) (λ a. inr (x_is ∙ a)) r.panic.word)) (in_snoc true r.desk.loads (eqb x 1) h);
    };
  }

-- k10, by a pass
pub looks : (room n slots k id : ℕ) (me : Sat) → k ≡ slots → me.0 ≡ OfPass (pass_of me.0) → Allows (IsKept room n) slots id me (2 * k + 1) (λ x. x) (looked (step slots (2 * k + 1) 0 0 none) me)
looks room n slots k id me same is s r deep at _ =
    let v : PassView = pass_of me.0 in let at' : get_elem? s.views id ≡ some (OfPass v) = at ∙ ap some is in let known = pass_known r.seats id v at' in
    let x : ℕ = get_or s.words (2 * k + 1) 0 in let x_is = panic_word r k slots same deep in let v' : PassView = with_load v (eqb x 1) in (
      OfPass v',
      keeps,
      tt,
      pass_looks r id (2 * k + 1) v v' at' refl refl refl refl refl
          (counts_same (λ _ _. refl) (put_field (λ (z : PassView). z.claims) r.pass v.number v' (ap (λ (z : PassView). z.claims) (sym known.2))) (put_field (λ (z : PassView). z.found) r.pass v.number v' (ap (λ (z : PassView). z.found) (sym known.2))) r.counts)
          (panic_load r v.number v x known.2 known.0 x_is),
      (panic_small r x x_is, refl, λ y e. x_is ∙ r.panic.set v.number y known.0 (ap (λ (z : PassView). z.fatal) known.2 ∙ e)),
    )

-- k10, by the decoder
pub overlooks : (room n slots k id : ℕ) (me : Sat) → k ≡ slots → me.0 ≡ OfWork (work_of me.0) → Allows (IsKept room n) slots id me (2 * k + 1) (λ x. x) (overlooked (step slots (2 * k + 1) 0 0 none) me)
overlooks room n slots k id me same is s r deep at _ =
    let w : WorkView = work_of me.0 in let know = r.seats.each id (OfWork w) (at ∙ ap some is) in let x : ℕ = get_or s.words (2 * k + 1) 0 in let x_is = panic_word r k slots same deep in
    let kept = subst (λ (z : List ℕ × ℕ × WorkView). IsKept room n record { words = z.0; homes = s.homes; views = set s.views z.1 (OfWork (with_look z.2 (eqb x 1))) }) (λ j. (sym (set-get_or s.words (2 * k + 1) 0) j, sym know.0 j, sym know.1 j)) (look_kept r x x_is) in (
      OfWork (with_look w (eqb x 1)),
      keeps,
      tt,
      kept,
      (panic_small r x x_is, refl, quiet_after (set s.words (2 * k + 1) x) s.homes s.views id me.0 (OfWork (with_look w (eqb x 1))) at kept),
    )

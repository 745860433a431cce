-- A pass sets the panic word for its fatal block.
use Rattle.std.proofs.Common.{◌≡◌, ◌≢◌, ◌⊎◌, ℕ, zero, suc, ◌+◌, ◌-◌, ◌*◌, ◌<◌, ◌≤◌, eqb, Bool, true, false, List, [], ◌∷◌, ◌++◌, length, map, get_or, set, sym, refl, ap, ◌∙◌, subst, arith, inl, inr, ⊎_elim, Option, Some, None, length-set, length-append, take, drop}
use mathlib.Core.Logic.{dite}
use mathlib.Core.Option.{some, none, some-injective, some-ne-none}
use mathlib.Core.Option as maybe
use native.Mathlib.Decide.{ℕ_discrete, dec_le}
use lib.ListN.{get_elem?}
use Rattle.std.proofs.lemmas.List.{take-append-drop}
use Rattle.atomic_table.specs.Table.{State}
use Rattle.ghes_rule.specs.declared.views.Cell.{Cell}
use Rattle.ghes_rule.specs.declared.views.PacketView.{PacketView}
use Rattle.ghes_rule.specs.declared.views.Turn.{Turn}
use Rattle.ghes_rule.specs.declared.views.Pushed.{Pushed}
use Rattle.ghes_rule.specs.declared.views.Stage.{Stage}
use Rattle.ghes_rule.specs.declared.views.Stage.TheVariants.{Idle, Holding, Swapped}
use Rattle.ghes_rule.specs.declared.views.Hand.{Hand}
use Rattle.ghes_rule.specs.declared.views.Hand.TheVariants.{Bare, Full}
use Rattle.ghes_rule.specs.declared.views.PassView.{PassView}
use Rattle.ghes_rule.specs.declared.views.WorkView.{WorkView}
use Rattle.ghes_rule.specs.declared.views.View.{View}
use Rattle.ghes_rule.specs.declared.views.View.TheVariants.{OfPass, OfWork, Spent}
use Rattle.ghes_rule.specs.Kept.{Spot, free, with_pass, waits, at_desk, busy, In, when, sum_to, count, count_in, of_pass, turn, IsBelow, Slots, InStage, PassOk, Counts, Linked, Chain, InHand, DeskOk, Knows, Seats, Held, Panic, IsKept}
use Rattle.ghes_rule.specs.Moves.{view_or, view_at, all_back, in_hand, ended_of, Settled}
use Rattle.atomic_table.specs.Table.{Me, Act, keeps, Allows, Splits, Joins, step}
use Rattle.atomic_table.proofs.Lists.{at_set, set_here, set_else, set_again, at_snoc, at_longer, at_last}
use lib.Seq.{set-get_or}
use Rattle.ghes_rule.specs.Moves.{Sat, pass_of, work_of, first_back, joined, join_views, without_first, let_out, split_left, split_right, ended_if, tab, told_settled}
use Rattle.std.proofs.Common.{◌/◌, ◌%◌, bit_or, vec_capacity, get_or-set_same, get_or-set_other}
use Rattle.std.proofs.lemmas.Nat.{or_disjoint}
use Rattle.atomic_table.specs.Table.{takes, gives, stepped}
use Rattle.ghes_rule.specs.Kept.{pushed_slot}
use Rattle.ghes_rule.specs.Kept
use Rattle.ghes_rule.specs.Moves.{with_claim, with_found, without_claim, HasEmpty, tried, freed}
use Rattle.std.proofs.lemmas.Nat.{and_mask}
use Rattle.std.specs.Int.Bits.{or_add_and}
use Rattle.std.proofs.Common.{◌^◌}
use Rattle.std.proofs.Common.{eq-eqb, ne_eqb}
use Rattle.ghes_rule.specs.Moves.{with_load, with_look, with_fatal, looked, overlooked, stopped_with}
use Rattle.ghes_rule.proofs.Puts.{put, put_here, put_all, put_field}
use Rattle.ghes_rule.proofs.Frames.{pass_known, seats_pass, counts_same}
use Rattle.ghes_rule.proofs.Quiet.{waits_at}
use Rattle.ghes_rule.proofs.Keeps.{longer_self, at_keep, stage_keep, linked_keep}

module _ {room n : ℕ} {s : State (Option Cell) View} (r : IsKept room n s) where
  stop_kept : (id : ℕ) (v v' : PassView) (x : PacketView) → get_elem? s.views id ≡ some (OfPass v) → v'.number ≡ v.number → v'.room ≡ v.room → v'.mine ≡ v.mine → v'.since ≡ v.since → v'.stage ≡ v.stage → v'.claims ≡ v.claims → v'.found ≡ v.found → v'.fatal ≡ Some x
      → IsKept room n record { words = set s.words (2 * r.k + 1) 1; homes = s.homes; views = set s.views id (OfPass v') }
  stop_kept id v v' x at num rm mn sn st cl fd ft =
      let k : ℕ = r.k in let known = pass_known r.seats id v at in let p : ℕ = v.number in let l : p < n = known.0 in let is : r.pass p ≡ v = known.2 in let ok = r.passes p l in let wide = r.slots.wide in
      let words' : List ℕ = set s.words (2 * k + 1) 1 in let pass' : ℕ → PassView = put r.pass p v' in let lg = longer_self r.log in let marks = r.chain.marks in
      let word : (j : ℕ) → j < k → get_or words' j 0 ≡ get_or s.words j 0 = λ j b. get_or-set_other s.words (2 * k + 1) j 1 0 (λ z. omega arith) in
      let link : (j : ℕ) → j < k → get_or words' (k + j) 0 ≡ get_or s.words (k + j) 0 = λ j b. get_or-set_other s.words (2 * k + 1) (k + j) 1 0 (λ z. omega arith) in
      let now : get_or words' (2 * k + 1) 0 ≡ 1 = get_or-set_same s.words (2 * k + 1) 1 0 (omega arith) in
      let stage_is : (q : ℕ) → (pass' q).stage ≡ (r.pass q).stage = put_field (λ (z : PassView). z.stage) r.pass p v' (st ∙ ap (λ (z : PassView). z.stage) (sym is)) in
      let staged : (q : ℕ) (z : Stage) → InStage k s.words r.log r.age r.spot q z → InStage k words' r.log r.age r.spot q z = λ q z.
      stage_keep k q s.words words' r.log r.log r.age r.age r.spot r.spot z lg (λ _ _ _. (refl, refl)) (λ j t e b w y at' _. (refl, link j b ∙ y)) in
      let linked : (b t : ℕ) → r.from ≤ t → Linked k s.words r.log r.pass b t → Linked k words' r.log pass' b t = λ b t low. linked_keep k s.words words' r.log r.log r.pass pass' b t lg
      (λ f h. link f.slot (waits_at r.chain t f low h).0) (λ f old h sw. stage_is f.pass) in
      record {
        k = k;
        spot = r.spot;
        age = r.age;
        pass = pass';
        seat = r.seat;
        desk = r.desk;
        chair = r.chair;
        log = r.log;
        from = r.from;
        walk = r.walk;
        top = r.top;
        slots = record {
          wide = length-set s.words (2 * k + 1) 1 ∙ wide;
          deep = r.slots.deep;
          each = λ j b. at_keep k room s.words words' s.homes s.homes r.log r.log r.from r.from (r.age j) j (r.spot j) (word j b) (λ _. link j b) refl lg (λ _ _ z. z) (r.slots.each j b);
        };
        passes = λ q m. put_all (λ q z. PassOk k words' r.log r.age r.spot q room z) r.pass p v' q
            (λ e. subst (λ q. PassOk k words' r.log r.age r.spot q room v') (sym e) record {
              number = num;
              room_is = rm ∙ (ap (λ (z : PassView). z.room) (sym is) ∙ ok.room_is);
              stage = staged p v'.stage (subst (InStage k s.words r.log r.age r.spot p) (ap (λ (z : PassView). z.stage) is ∙ sym st) ok.stage);
              mine = mn ∙ (ap (λ (z : PassView). z.mine) (sym is) ∙ ok.mine);
              since = λ j b. let a = ok.since j b in let same : get_or v'.since j 0 ≡ get_or (r.pass p).since j 0 = ap (λ zs. get_or zs j 0) (sn ∙ ap (λ (z : PassView). z.since) (sym is)) in omega arith;
            })
            (λ _. let o = r.passes q m in record { number = o.number; room_is = o.room_is; stage = staged q (r.pass q).stage o.stage; mine = o.mine; since = o.since });
        held = λ j q m e. stage_is q ∙ r.held j q m e;
        counts = counts_same (λ _ _. refl) (put_field (λ (z : PassView). z.claims) r.pass p v' (cl ∙ ap (λ (z : PassView). z.claims) (sym is))) (put_field (λ (z : PassView). z.found) r.pass p v' (fd ∙ ap (λ (z : PassView). z.found) (sym is))) r.counts;
        chain = record {
          marks = r.chain.marks;
          passes = r.chain.passes;
          pending = r.chain.pending;
          rest = λ t a b. linked r.from t a (r.chain.rest t a b);
          walked = λ t f a b h z. r.chain.walked t f a b h (sym (link f.slot (waits_at r.chain t f (let m = marks.0 in omega arith) h).0) ∙ z);
          hangs = λ t a b. linked r.top t (let m = marks.0 in let m' = marks.1 in omega arith) (r.chain.hangs t a b);
          head = subst (IsBelow r.log r.top (length r.log)) (sym (get_or-set_other s.words (2 * k + 1) (2 * k) 1 0 (λ z. omega arith))) r.chain.head;
        };
        work = r.work;
        seats = seats_pass r.seats id v v' (λ q m. (r.passes q m).number) at num;
        panic = record {
          word = inr now;
          fatal = λ _. (p, l, (x, ap (λ (z : PassView). z.fatal) (put_here r.pass p v') ∙ ft));
          set = λ _ _ _ _. now;
          loads = λ _ _ _. now;
          desk_loads = λ _. now;
        };
      }

-- k9
pub stops : (room n slots k id : ℕ) (me : Sat) (x : PacketView) → k ≡ slots → me.0 ≡ OfPass (pass_of me.0) → Allows (IsKept room n) slots id me (2 * k + 1) (λ _. 1) (stopped_with x (step slots (2 * k + 1) 1 0 none) me)
stops room n slots k id me x same is s r deep at _ =
    let v : PassView = pass_of me.0 in let at' : get_elem? s.views id ≡ some (OfPass v) = at ∙ ap some is in let k_is : k ≡ r.k = same ∙ (sym deep ∙ r.slots.deep) in let v' : PassView = with_fatal v x in (
      OfPass v',
      keeps,
      tt,
      subst (λ z. IsKept room n record { words = set s.words (2 * z + 1) 1; homes = s.homes; views = set s.views id (OfPass v') }) (sym k_is) (stop_kept r id v v' x at' refl refl refl refl refl refl refl refl),
      refl,
    )

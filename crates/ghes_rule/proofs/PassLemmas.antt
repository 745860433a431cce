-- What steps of a pass that move no slot have in common.
use Rattle.std.proofs.Common.{◌≡◌, ◌≢◌, ◌⊎◌, ℕ, zero, suc, ◌+◌, ◌-◌, ◌*◌, ◌<◌, ◌≤◌, eqb, Bool, true, false, List, [], ◌∷◌, ◌++◌, length, map, get_or, set, sym, refl, ap, ◌∙◌, subst, arith, inl, inr, ⊎_elim, Option, Some, None, length-set, length-append, take, drop}
use mathlib.Core.Logic.{dite}
use mathlib.Core.Option.{some, none, some-injective, some-ne-none}
use mathlib.Core.Option as maybe
use native.Mathlib.Decide.{ℕ_discrete, dec_le}
use lib.ListN.{get_elem?}
use Rattle.std.proofs.lemmas.List.{take-append-drop}
use Rattle.atomic_table.specs.Table.{State}
use Rattle.ghes_rule.specs.declared.views.Cell.{Cell}
use Rattle.ghes_rule.specs.declared.views.Turn.{Turn}
use Rattle.ghes_rule.specs.declared.views.Pushed.{Pushed}
use Rattle.ghes_rule.specs.declared.views.Stage.{Stage}
use Rattle.ghes_rule.specs.declared.views.Stage.TheVariants.{Idle, Holding, Swapped}
use Rattle.ghes_rule.specs.declared.views.Hand.{Hand}
use Rattle.ghes_rule.specs.declared.views.Hand.TheVariants.{Bare, Full}
use Rattle.ghes_rule.specs.declared.views.PassView.{PassView}
use Rattle.ghes_rule.specs.declared.views.WorkView.{WorkView}
use Rattle.ghes_rule.specs.declared.views.View.{View}
use Rattle.ghes_rule.specs.declared.views.View.TheVariants.{OfPass, OfWork, Spent}
use Rattle.ghes_rule.specs.Kept.{Spot, free, with_pass, waits, at_desk, busy, In, when, sum_to, count, count_in, of_pass, turn, IsBelow, Slots, InStage, PassOk, Counts, Linked, Chain, InHand, DeskOk, Knows, Seats, Held, Panic, IsKept}
use Rattle.ghes_rule.specs.Moves.{view_or, view_at, all_back, in_hand, ended_of, Settled}
use Rattle.atomic_table.specs.Table.{Me, Act, keeps, Allows, Splits, Joins, step}
use Rattle.atomic_table.proofs.Lists.{at_set, set_here, set_else, set_again, at_snoc, at_longer, at_last}
use lib.Seq.{set-get_or}
use Rattle.ghes_rule.specs.Moves.{Sat, pass_of, work_of, first_back, joined, join_views, without_first, let_out, split_left, split_right, ended_if, tab, told_settled}
use Rattle.std.proofs.Common.{◌/◌, ◌%◌, bit_or, vec_capacity, get_or-set_same, get_or-set_other}
use Rattle.std.proofs.lemmas.Nat.{or_disjoint}
use Rattle.atomic_table.specs.Table.{takes, gives, stepped}
use Rattle.ghes_rule.specs.Kept.{pushed_slot}
use Rattle.ghes_rule.specs.Kept
use Rattle.ghes_rule.specs.Moves.{with_claim, with_found, without_claim, HasEmpty, tried, freed}
use Rattle.std.proofs.lemmas.Nat.{and_mask}
use Rattle.std.specs.Int.Bits.{or_add_and}
use Rattle.std.proofs.Common.{◌^◌}
use Rattle.ghes_rule.proofs.Puts.{put, put_all, put_field, sum_most, count_most}
use Rattle.ghes_rule.proofs.Frames.{pass_known, seats_pass, chain_same}

pub or_one : (x : ℕ) → bit_or x 1 ≡ x + 1 - x % 2
or_one x = let a = or_add_and x 1 in let b = and_mask x 1 in omega arith

abbrev pub idle_stage : Stage
idle_stage = Idle

module _ {room n : ℕ} {s : State (Option Cell) View} (r : IsKept room n s) where
  pub few_claims : (i : ℕ) → i < r.k → r.age i + busy (r.spot i) ≤ 68719476736
  few_claims i l = let a = r.counts.counted i l in let b = sum_most n 4294967296 (λ p. count i (r.pass p).claims) (λ p m. let x = count_most i (r.pass p).claims in let y = r.counts.short p m in omega arith) in let c = r.counts.few in omega arith

  -- the pass of the seat id changes what it found and its steps
  pub pass_looks : (id i : ℕ) (v v' : PassView) → get_elem? s.views id ≡ some (OfPass v) → v'.number ≡ v.number → v'.room ≡ v.room → v'.mine ≡ v.mine → v'.since ≡ v.since → v'.stage ≡ v.stage
      → Counts r.k n (λ j. r.age j + busy (r.spot j)) (put r.pass v.number v') → Panic r.k n s.words (put r.pass v.number v') r.desk
      → IsKept room n record { words = set s.words i (get_or s.words i 0); homes = s.homes; views = set s.views id (OfPass v') }
  pass_looks id i v v' at num rm mn sn st counts panic =
      let known = pass_known r.seats id v at in let p : ℕ = v.number in let l : p < n = known.0 in let is : r.pass p ≡ v = known.2 in let ok = r.passes p l in
      let stage_is : (q : ℕ) → (put r.pass p v' q).stage ≡ (r.pass q).stage = put_field (λ (z : PassView). z.stage) r.pass p v' (st ∙ ap (λ (z : PassView). z.stage) (sym is)) in
      subst (λ (ws : List ℕ). IsKept room n record { words = ws; homes = s.homes; views = set s.views id (OfPass v') }) (sym (set-get_or s.words i 0)) record {
        k = r.k;
        spot = r.spot;
        age = r.age;
        pass = put r.pass p v';
        seat = r.seat;
        desk = r.desk;
        chair = r.chair;
        log = r.log;
        from = r.from;
        walk = r.walk;
        top = r.top;
        slots = r.slots;
        passes = λ q m. put_all (λ q z. PassOk r.k s.words r.log r.age r.spot q room z) r.pass p v' q
            (λ e. subst (λ q. PassOk r.k s.words r.log r.age r.spot q room v') (sym e) record {
              number = num;
              room_is = rm ∙ (ap (λ (z : PassView). z.room) (sym is) ∙ ok.room_is);
              stage = subst (InStage r.k s.words r.log r.age r.spot p) (ap (λ (z : PassView). z.stage) is ∙ sym st) ok.stage;
              mine = mn ∙ (ap (λ (z : PassView). z.mine) (sym is) ∙ ok.mine);
              since = λ j b. let a = ok.since j b in let same : get_or v'.since j 0 ≡ get_or (r.pass p).since j 0 = ap (λ zs. get_or zs j 0) (sn ∙ ap (λ (z : PassView). z.since) (sym is)) in omega arith;
            })
            (λ _. r.passes q m);
        held = λ j q m e. stage_is q ∙ r.held j q m e;
        counts = counts;
        chain = chain_same stage_is r.chain;
        work = r.work;
        seats = seats_pass r.seats id v v' (λ q m. (r.passes q m).number) at num;
        panic = panic;
      }

pub free_or_busy : (Q : Spot) → (Q ≡ free) ⊎ (busy Q ≡ 1)
free_or_busy free = inl refl
free_or_busy (with_pass p) = inr refl
free_or_busy (waits t) = inr refl
free_or_busy at_desk = inr refl

pub busy_word : (k room : ℕ) (words : List ℕ) (homes : List (maybe.Option (Option Cell))) (log : List Pushed) (from age i : ℕ) (Q : Spot) → busy Q ≡ 1 → Kept.At k room words homes log from age i Q → get_or words i 0 ≡ 2 * age + 1
busy_word k room words homes log from age i free e a = absurd (omega arith)
busy_word k room words homes log from age i (with_pass p) e a = a.0
busy_word k room words homes log from age i (waits t) e a = a.0
busy_word k room words homes log from age i at_desk e a = a.0

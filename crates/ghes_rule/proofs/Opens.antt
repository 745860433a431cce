-- The rule at the start: every slot is free, nothing was pushed, and every pass is ended.
use Rattle.std.proofs.Common.{◌≡◌, ◌≢◌, ◌⊎◌, ℕ, zero, suc, ◌+◌, ◌-◌, ◌*◌, ◌<◌, ◌≤◌, eqb, Bool, true, false, List, [], ◌∷◌, ◌++◌, length, map, get_or, set, sym, refl, ap, ◌∙◌, subst, arith, inl, inr, ⊎_elim, Option, Some, None, length-set, length-append, take, drop}
use mathlib.Core.Logic.{dite}
use mathlib.Core.Option.{some, none, some-injective, some-ne-none}
use mathlib.Core.Option as maybe
use native.Mathlib.Decide.{ℕ_discrete, dec_le}
use lib.ListN.{get_elem?}
use Rattle.std.proofs.lemmas.List.{take-append-drop}
use Rattle.atomic_table.specs.Table.{State}
use Rattle.ghes_rule.specs.declared.views.Cell.{Cell}
use Rattle.ghes_rule.specs.declared.views.PacketView.{PacketView}
use Rattle.ghes_rule.specs.declared.views.Turn.{Turn}
use Rattle.ghes_rule.specs.declared.views.Pushed.{Pushed}
use Rattle.ghes_rule.specs.declared.views.Stage.{Stage}
use Rattle.ghes_rule.specs.declared.views.Stage.TheVariants.{Idle, Holding, Swapped}
use Rattle.ghes_rule.specs.declared.views.Hand.{Hand}
use Rattle.ghes_rule.specs.declared.views.Hand.TheVariants.{Bare, Full}
use Rattle.ghes_rule.specs.declared.views.PassView.{PassView}
use Rattle.ghes_rule.specs.declared.views.WorkView.{WorkView}
use Rattle.ghes_rule.specs.declared.views.View.{View}
use Rattle.ghes_rule.specs.declared.views.View.TheVariants.{OfPass, OfWork, Spent}
use Rattle.ghes_rule.specs.Kept.{Spot, free, with_pass, waits, at_desk, busy, In, when, sum_to, count, count_in, of_pass, turn, IsBelow, Slots, InStage, PassOk, Counts, Linked, Chain, InHand, DeskOk, Knows, Seats, Held, Panic, IsKept}
use Rattle.ghes_rule.specs.Moves.{view_or, view_at, all_back, in_hand, ended_of, Settled}
use Rattle.ghes_rule.proofs.Puts.{sum_same, at_below, one_at, at_drop, in_at, at_in, count_none, count_once, count_passes, count_in_append, when_same, when_other, put, put_here, put_at, put_else, put_all, put_field, tab_length, tab_at}
use Rattle.ghes_rule.proofs.Frames.{work_known, pass_known, seats_pass, seats_work, counts_same, chain_same, chair_apart, work_apart, work_spent, panic_same}
use Rattle.ghes_rule.proofs.Quiet.{recount, settled}
use Rattle.atomic_table.specs.Table.{Me, Act, keeps, Allows, Splits, Joins, step}
use Rattle.atomic_table.proofs.Lists.{at_set, set_here, set_else, set_again, at_snoc, at_longer, at_last}
use lib.Seq.{set-get_or}
use Rattle.ghes_rule.specs.Moves.{Sat, pass_of, work_of, first_back, joined, join_views, without_first, let_out, split_left, split_right, ended_if, tab, told_settled}
use Rattle.std.proofs.Common.{replicate, slice_index_or}
use lib.ListN.{length-replicate, length-map}
use Rattle.atomic_table.specs.Table.{opening}
use Rattle.atomic_table.proofs.Lists.{at_map}
use Rattle.ghes_rule.specs.Kept.{first_pass, first_passes, first_work, first_view}
use Rattle.std.proofs.Common.{vec_capacity}

pub first_length : (room k p n : ℕ) → length (first_passes room k p n) ≡ n
first_length room k p zero = refl
first_length room k p (suc n) = let r = first_length room k (p + 1) n in omega arith

pub first_at : (room k p n q : ℕ) → q < n → get_elem? (first_passes room k p n) q ≡ some (Some (first_pass room k (p + q)))
first_at room k p zero q l = absurd (omega arith)
first_at room k p (suc n) zero l = ap (λ i. some (Some (first_pass room k i))) (omega arith)
first_at room k p (suc n) (suc q) l = first_at room k (p + 1) n q (omega arith) ∙ ap (λ i. some (Some (first_pass room k i))) (let g : p + 1 + q ≡ p + suc q = omega arith in g)

pub zeros : (n i : ℕ) → get_or (replicate {A = ℕ} n 0) i 0 ≡ 0
zeros zero i = refl
zeros (suc n) zero = refl
zeros (suc n) (suc i) = zeros n i

no_push : (t : ℕ) (e : Pushed) → get_elem? [] t ≡ some e → ⊥
no_push t e h = some-ne-none e (sym h)

none_some : (x : PacketView) → None ≡ Some x → ⊥
none_some x e = let q : code None ≡ code (Some x) = ap code e in absurd (omega arith)
  where
    code : Option PacketView → ℕ
    code None = 0
    code (Some y) = 1

pub opens : (room n k : ℕ) (words : List ℕ) (cells : List (Option Cell)) → n ≤ 16 → words ≡ replicate (2 * k + 2) 0 → length cells ≡ k
    → ((i : ℕ) → i < k → (c : Cell) × (get_elem? cells i ≡ some (Some c)) × (c.packet.bytes.bytes ≡ []) × (room ≤ c.packet.bytes.room))
    → IsKept room n (opening words cells (first_view room k n))
opens room n k words cells few are many fill =
    let blank : (i : ℕ) → get_or words i 0 ≡ 0 = λ i. ap (λ (ws : List ℕ). get_or ws i 0) are ∙ zeros (2 * k + 2) i in
    let none_ended : (i : ℕ) → get_or (replicate {A = ℕ} k 0) i 0 ≡ 0 = λ i. zeros k i in
    record {
      k = k;
      spot = λ _. free;
      age = λ _. 0;
      pass = first_pass room k;
      seat = λ _. 0;
      desk = first_work room k n;
      chair = 0;
      log = [];
      from = 0;
      walk = 0;
      top = 0;
      slots = record {
        wide = ap length are ∙ length-replicate (2 * k + 2) 0;
        deep = length-map cells (λ (x : Option Cell). some x) ∙ many;
        each = λ i l. let f = fill i l in (blank i, blank (k + i), (f.0, at_map (λ (x : Option Cell). some x) cells i (Some f.0) f.1, f.2, f.3));
      };
      passes = λ p l. record { number = refl; room_is = refl; stage = tt; mine = refl; since = λ i _. let z = none_ended i in omega arith };
      held = λ i p l e. absurd (Rattle.ghes_rule.proofs.Quiet.spots_apart free (with_pass p) (λ h. omega arith) e);
      counts = record {
        few = few;
        counted = λ i l. Rattle.ghes_rule.proofs.Puts.sum_zero n (λ p. 0) (λ _ _. refl);
        each = λ i g l m. absurd (omega arith);
        bounded = λ p c l m. absurd m;
        found = λ p c l m. absurd m;
        short = λ p l. omega arith;
      };
      chain = record {
        marks = (omega arith, omega arith, omega arith);
        passes = λ t e h. absurd (no_push t e h);
        pending = λ t a b. absurd (omega arith);
        rest = λ t a b. absurd (omega arith);
        walked = λ t e a b h. absurd (no_push t e h);
        hangs = λ t a b. absurd (omega arith);
        head = inl (refl, blank (2 * k));
      };
      work = record {
        room_is = refl;
        cursor = inl (refl, refl);
        walked = (0, refl, refl);
        taken = refl;
        hand = tt;
        hand_end = λ i g e. refl;
        desk = λ i l e. absurd (Rattle.ghes_rule.proofs.Quiet.spots_apart free at_desk (λ h. omega arith) e);
        holder = λ i p l e. absurd (Rattle.ghes_rule.proofs.Quiet.spots_apart free (with_pass p) (λ h. omega arith) e);
        as_long = length-replicate k 0;
        ended = λ i l. let z = none_ended i in omega arith;
        all_ended = λ _ i l. none_ended i;
      };
      seats = record {
        as_many = first_length room k 0 n;
        out = λ p l pos. absurd (omega arith);
        ended = λ p l z. (first_at room k 0 n p l ∙ ap (λ i. some (Some (first_pass room k i))) (let g : 0 + p ≡ p = omega arith in g), refl);
        there = refl;
        live = λ p l pos. absurd (omega arith);
        each = λ j d e. ⊎_elim (λ (t : (j ≡ 0) × (first_view room k n ≡ d)). subst (Knows n (λ _. 0) (first_pass room k) 0 (first_work room k n) j) t.1 (t.0, refl))
            (λ (t : (j ≢ 0) × (get_elem? (first_view room k n ∷ []) j ≡ some d)). absurd (beyond (first_view room k n) j d t.0 t.1)) (at_set (first_view room k n ∷ []) 0 j (first_view room k n) d e);
      };
      panic = record {
        word = inl (blank (2 * k + 1));
        fatal = λ e. absurd (let b = blank (2 * k + 1) in omega arith);
        set = λ p x l e. absurd (none_some x e);
        loads = λ p l h. absurd h;
        desk_loads = λ h. absurd h;
      };
    }
  where
    beyond : (v : View) (j : ℕ) (d : View) → j ≢ 0 → get_elem? (v ∷ []) j ≡ some d → ⊥
    beyond v zero d ne e = ne refl
    beyond v (suc j) d ne e = some-ne-none d (sym e)

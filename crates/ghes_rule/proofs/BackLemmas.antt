-- What the decoder knows where it has every pass.
use Rattle.std.proofs.Common.{◌≡◌, ◌≢◌, ◌⊎◌, ℕ, zero, suc, ◌+◌, ◌-◌, ◌*◌, ◌<◌, ◌≤◌, eqb, Bool, true, false, List, [], ◌∷◌, ◌++◌, length, map, get_or, set, sym, refl, ap, ◌∙◌, subst, arith, inl, inr, ⊎_elim, Option, Some, None, length-set, length-append, take, drop}
use mathlib.Core.Logic.{dite}
use mathlib.Core.Option.{some, none, some-injective, some-ne-none}
use mathlib.Core.Option as maybe
use native.Mathlib.Decide.{ℕ_discrete, dec_le}
use lib.ListN.{get_elem?}
use Rattle.std.proofs.lemmas.List.{take-append-drop}
use Rattle.atomic_table.specs.Table.{State}
use Rattle.ghes_rule.specs.declared.views.Cell.{Cell}
use Rattle.ghes_rule.specs.declared.views.Turn.{Turn}
use Rattle.ghes_rule.specs.declared.views.Pushed.{Pushed}
use Rattle.ghes_rule.specs.declared.views.Stage.{Stage}
use Rattle.ghes_rule.specs.declared.views.Stage.TheVariants.{Idle, Holding, Swapped}
use Rattle.ghes_rule.specs.declared.views.Hand.{Hand}
use Rattle.ghes_rule.specs.declared.views.Hand.TheVariants.{Bare, Full}
use Rattle.ghes_rule.specs.declared.views.PassView.{PassView}
use Rattle.ghes_rule.specs.declared.views.WorkView.{WorkView}
use Rattle.ghes_rule.specs.declared.views.View.{View}
use Rattle.ghes_rule.specs.declared.views.View.TheVariants.{OfPass, OfWork, Spent}
use Rattle.ghes_rule.specs.Kept.{Spot, free, with_pass, waits, at_desk, busy, In, when, sum_to, count, count_in, of_pass, turn, IsBelow, Slots, InStage, PassOk, Counts, Linked, Chain, InHand, DeskOk, Knows, Seats, Held, Panic, IsKept}
use Rattle.ghes_rule.specs.Moves.{view_or, view_at, all_back, in_hand, ended_of, Settled}
use Rattle.atomic_table.specs.Table.{Me, Act, keeps, Allows, Splits, Joins, step}
use Rattle.atomic_table.proofs.Lists.{at_set, set_here, set_else, set_again, at_snoc, at_longer, at_last}
use lib.Seq.{set-get_or}
use Rattle.ghes_rule.specs.Moves.{Sat, pass_of, work_of, first_back, joined, join_views, without_first, let_out, split_left, split_right, ended_if, tab, Quietly, told_settled}
use Rattle.ghes_rule.proofs.Puts.{at_below}
use Rattle.ghes_rule.proofs.Quiet.{settled}

pub all_back_at : (ps : List (Option PassView)) → all_back ps ≡ true → (p : ℕ) → p < length ps → get_elem? ps p ≡ some (Some (view_at ps p))
all_back_at [] h p l = absurd (omega arith)
all_back_at (None ∷ ps) h p l = absurd (false_true h)
  where
    code : Bool → ℕ
    code false = 0
    code true = 1

    false_true : false ≡ true → ⊥
    false_true e = let q : code false ≡ code true = ap code e in absurd (omega arith)
all_back_at (Some v ∷ ps) h zero l = refl
all_back_at (Some v ∷ ps) h (suc p) l = all_back_at ps h p (omega arith)

pub back_all : (ps : List (Option PassView)) → ((p : ℕ) → p < length ps → (v : PassView) × (get_elem? ps p ≡ some (Some v))) → all_back ps ≡ true
back_all [] h = refl
back_all (None ∷ ps) h = absurd (apart (h 0 (omega arith)))
  where
    code : maybe.Option (Option PassView) → ℕ
    code none = 0
    code (some None) = 1
    code (some (Some v)) = 2

    apart : (v : PassView) × (some None ≡ some (Some v)) → ⊥
    apart t = let q : code (some None) ≡ code (some (Some t.0)) = ap code t.1 in absurd (omega arith)
back_all (Some v ∷ ps) h = back_all ps (λ p l. h (suc p) (omega arith))

pub some_none : (v : PassView) → some None ≡ some (Some v) → ⊥
some_none v e = let q : code (some None) ≡ code (some (Some v)) = ap code e in absurd (omega arith)
  where
    code : maybe.Option (Option PassView) → ℕ
    code none = 0
    code (some None) = 1
    code (some (Some v)) = 2

pub first_back_at : (ps : List (Option PassView)) → first_back ps < length ps → get_elem? ps (first_back ps) ≡ some (Some (view_at ps (first_back ps)))
first_back_at [] l = absurd (omega arith)
first_back_at (None ∷ ps) l = first_back_at ps (omega arith)
first_back_at (Some v ∷ ps) l = refl

-- a view that stands at the end, over a change before it
module _ {room n : ℕ} {s : State (Option Cell) View} (r : IsKept room n s) where
  pub numbers : (q : ℕ) → q < n → (r.pass q).number ≡ q
  numbers q l = (r.passes q l).number

  pub ended_seat : (p : ℕ) (v : PassView) → p < n → get_elem? r.desk.passes p ≡ some (Some v) → r.seat p ≡ 0
  ended_seat p v l at = dite (ℕ_discrete (r.seat p) 0) (λ z. z) (λ ne. absurd (some_none v (sym (r.seats.out p l (omega arith)) ∙ at)))

  pub same_views : all_back r.desk.passes ≡ true → (p : ℕ) → p < n → (view_at r.desk.passes p ≡ r.pass p) × ((r.pass p).stage ≡ Idle) × (r.seat p ≡ 0)
  same_views h p l = let many = r.seats.as_many in let at = all_back_at r.desk.passes h p (omega arith) in let z = ended_seat p (view_at r.desk.passes p) l at in let e = r.seats.ended p l z in
      (ap view_or e.0, e.1, z)

  pub settled_now : all_back r.desk.passes ≡ true → Settled r.desk
  settled_now h = settled r r.desk.passes r.seats.as_many (λ p l. (same_views h p l).0) (λ p l. (same_views h p l).1) (r.work.all_ended (λ p l. (same_views h p l).2)) refl

  -- what the decoder knows of a quiet moment, if it is one
  pub quietly : (id : ℕ) (d : View) → get_elem? s.views id ≡ some d → Quietly d
  quietly id d at w e h = let known = r.seats.each id (OfWork w) (at ∙ ap some e) in subst Settled (sym known.1) (settled_now (subst (λ (z : WorkView). all_back z.passes ≡ true) known.1 h))

-- the same after a step of the decoder
pub quiet_after : {room n : ℕ} (words : List ℕ) (homes : List (maybe.Option (Option Cell))) (views : List View) (id : ℕ) (old d : View) → get_elem? views id ≡ some old
    → IsKept room n record { words = words; homes = homes; views = set views id d } → Quietly d
quiet_after words homes views id old d at r = quietly r id d (set_here views id d (at_below views id old at))

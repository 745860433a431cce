-- What a step leaves of one place, of one pass and of a link.
use Rattle.std.proofs.Common.{◌≡◌, ◌≢◌, ◌⊎◌, ℕ, zero, suc, ◌+◌, ◌-◌, ◌*◌, ◌<◌, ◌≤◌, eqb, Bool, true, false, List, [], ◌∷◌, ◌++◌, length, map, get_or, set, sym, refl, ap, ◌∙◌, subst, arith, inl, inr, ⊎_elim, Option, Some, None, length-set, length-append, take, drop}
use mathlib.Core.Logic.{dite}
use mathlib.Core.Option.{some, none, some-injective, some-ne-none}
use mathlib.Core.Option as maybe
use native.Mathlib.Decide.{ℕ_discrete, dec_le}
use lib.ListN.{get_elem?}
use Rattle.std.proofs.lemmas.List.{take-append-drop}
use Rattle.atomic_table.specs.Table.{State}
use Rattle.ghes_rule.specs.declared.views.Cell.{Cell}
use Rattle.ghes_rule.specs.declared.views.Turn.{Turn}
use Rattle.ghes_rule.specs.declared.views.Pushed.{Pushed}
use Rattle.ghes_rule.specs.declared.views.Stage.{Stage}
use Rattle.ghes_rule.specs.declared.views.Stage.TheVariants.{Idle, Holding, Swapped}
use Rattle.ghes_rule.specs.declared.views.Hand.{Hand}
use Rattle.ghes_rule.specs.declared.views.Hand.TheVariants.{Bare, Full}
use Rattle.ghes_rule.specs.declared.views.PassView.{PassView}
use Rattle.ghes_rule.specs.declared.views.WorkView.{WorkView}
use Rattle.ghes_rule.specs.declared.views.View.{View}
use Rattle.ghes_rule.specs.declared.views.View.TheVariants.{OfPass, OfWork, Spent}
use Rattle.ghes_rule.specs.Kept.{Spot, free, with_pass, waits, at_desk, busy, In, when, sum_to, count, count_in, of_pass, turn, IsBelow, Slots, InStage, PassOk, Counts, Linked, Chain, InHand, DeskOk, Knows, Seats, Held, Panic, IsKept}
use Rattle.ghes_rule.specs.Moves.{view_or, view_at, all_back, in_hand, ended_of, Settled}
use Rattle.ghes_rule.proofs.Puts.{sum_same, at_below, one_at, at_drop, in_at, at_in, count_none, count_once, count_passes, count_in_append, when_same, when_other, put, put_here, put_at, put_else, put_all, put_field, tab_length, tab_at, sum_put, sum_most, count_snoc, count_most, in_snoc, in_last, in_longer, at_grown}
use Rattle.ghes_rule.proofs.Frames.{work_known, pass_known, seats_pass, seats_work, counts_same, chain_same, chair_apart, work_apart, work_spent, panic_same, linked_same}
use Rattle.ghes_rule.proofs.Quiet.{recount, settled, spot_code, stage_code, spots_apart, not_held, not_swapped, not_both, one_wait}
use Rattle.ghes_rule.proofs.PassSteps.{one_holder, slot_or}
use Rattle.atomic_table.specs.Table.{Me, Act, keeps, Allows, Splits, Joins, step}
use Rattle.atomic_table.proofs.Lists.{at_set, set_here, set_else, set_again, at_snoc, at_longer, at_last}
use lib.Seq.{set-get_or}
use Rattle.ghes_rule.specs.Moves.{Sat, pass_of, work_of, first_back, joined, join_views, without_first, let_out, split_left, split_right, ended_if, tab, told_settled}
use Rattle.std.proofs.Common.{◌/◌, ◌%◌, bit_or, vec_capacity, get_or-set_same, get_or-set_other}
use Rattle.std.proofs.lemmas.Nat.{or_disjoint}
use Rattle.atomic_table.specs.Table.{takes, gives, stepped}
use Rattle.ghes_rule.specs.Kept.{pushed_slot}
use Rattle.ghes_rule.specs.Kept
use Rattle.ghes_rule.specs.Moves.{with_claim, with_found, without_claim, HasEmpty, tried, freed}
use Rattle.std.proofs.lemmas.List.{take-append-le}

abbrev pub Homes : Type 0
Homes = List (maybe.Option (Option Cell))

-- a log that has all that the other has
abbrev pub Longer : List Pushed → List Pushed → Type 0
Longer log log' = (length log ≤ length log') × ((t : ℕ) (e : Pushed) → get_elem? log t ≡ some e → get_elem? log' t ≡ some e)

pub longer_self : (log : List Pushed) → Longer log log
longer_self log = (omega arith, λ t e h. h)

pub longer_snoc : (log : List Pushed) (e : Pushed) → Longer log (log ++ e ∷ [])
longer_snoc log e = (let a = length-append log (e ∷ []) in omega arith, λ t f h. at_longer log (e ∷ []) t f h)

pub at_keep : (k room : ℕ) (words words' : List ℕ) (homes homes' : Homes) (log log' : List Pushed) (from from' age i : ℕ) (Q : Spot) → get_or words' i 0 ≡ get_or words i 0 → (spot_code Q ≢ 2 → get_or words' (k + i) 0 ≡ get_or words (k + i) 0)
    → get_elem? homes' i ≡ get_elem? homes i → Longer log log' → ((t : ℕ) → Q ≡ waits t → from ≤ t → from' ≤ t)
    → Kept.At k room words homes log from age i Q → Kept.At k room words' homes' log' from' age i Q
at_keep k room words words' homes homes' log log' from from' age i free w l h g low a = (w ∙ a.0, l (λ z. omega arith) ∙ a.1, (a.2.0, h ∙ a.2.1, a.2.2, a.2.3))
at_keep k room words words' homes homes' log log' from from' age i (with_pass p) w l h g low a = (w ∙ a.0, l (λ z. omega arith) ∙ a.1, h ∙ a.2)
at_keep k room words words' homes homes' log log' from from' age i (waits t) w l h g low a = let b = a.3 in let long = g.0 in let before = a.2 in (w ∙ a.0, low t refl a.1, omega arith, (b.0, b.1, g.1 t b.0 b.2, b.3, b.4, h ∙ b.5, b.6, b.7, b.8))
at_keep k room words words' homes homes' log log' from from' age i at_desk w l h g low a = (w ∙ a.0, l (λ z. omega arith) ∙ a.1, h ∙ a.2)

pub stage_keep : (k q : ℕ) (words words' : List ℕ) (log log' : List Pushed) (age age' : ℕ → ℕ) (spot spot' : ℕ → Spot) (z : Stage) → Longer log log'
    → ((j : ℕ) → j < k → spot j ≡ with_pass q → (spot' j ≡ spot j) × (age' j ≡ age j))
    → ((j t : ℕ) (e : Pushed) → j < k → spot j ≡ waits t → get_or words (k + j) 0 ≡ 0 → get_elem? log t ≡ some e → e.pass ≡ q → (spot' j ≡ spot j) × (get_or words' (k + j) 0 ≡ 0))
    → InStage k words log age spot q z → InStage k words' log' age' spot' q z
stage_keep k q words words' log log' age age' spot spot' Idle g a b h = tt
stage_keep k q words words' log log' age age' spot spot' (Holding j g') g a b h = let o = a j h.0 h.1 in (h.0, o.0 ∙ h.1, o.1 ∙ h.2)
stage_keep k q words words' log log' age age' spot spot' (Swapped j old) g a b h = let t = h.1 in let o = b j t.0 t.1 h.0 t.2 t.5 t.3 t.4 in (h.0, (t.0, t.1, o.0 ∙ t.2, g.1 t.0 t.1 t.3, t.4, o.1))

pub below_keep : (log log' : List Pushed) (b t v : ℕ) → Longer log log' → IsBelow log b t v → IsBelow log' b t v
below_keep log log' b t v g h = ⊎_elim (λ a. inl a) (λ a. inr (a.0, a.1, a.2, a.3, g.1 a.0 a.1 a.4, a.5)) h

-- at 0 the bottom is reached
pub below_zero : (log : List Pushed) (b t v : ℕ) → v ≡ 0 → IsBelow log b t v → t ≡ b
below_zero log b t v z h = ⊎_elim (λ a. a.0) (λ a. absurd (let q = a.5 in omega arith)) h

pub below_some : (log : List Pushed) (b t i : ℕ) → IsBelow log b t (suc i) → (u : ℕ) × (e : Pushed) × (t ≡ u + 1) × (b ≤ u) × (get_elem? log u ≡ some e) × (i ≡ e.slot)
below_some log b t i h = ⊎_elim (λ a. absurd (let q = a.1 in omega arith)) (λ a. (a.0, a.1, a.2, a.3, a.4, let q = a.5 in omega arith)) h

pub linked_keep : (k : ℕ) (words words' : List ℕ) (log log' : List Pushed) (pass pass' : ℕ → PassView) (b t : ℕ) → Longer log log'
    → ((e : Pushed) → get_elem? log t ≡ some e → get_or words' (k + e.slot) 0 ≡ get_or words (k + e.slot) 0)
    → ((e : Pushed) (old : ℕ) → get_elem? log t ≡ some e → (pass e.pass).stage ≡ Swapped e.slot old → (pass' e.pass).stage ≡ (pass e.pass).stage)
    → Linked k words log pass b t → Linked k words' log' pass' b t
linked_keep k words words' log log' pass pass' b t g w st l = let e : Pushed = l.0 in (
  e,
  g.1 t e l.1,
  ⊎_elim (λ a. inl (w e l.1 ∙ a.0, (a.1.0, st e a.1.0 l.1 a.1.1 ∙ a.1.1, below_keep log log' b t a.1.0 g a.1.2))) (λ a. inr (a.0, w e l.1 ∙ a.1, below_keep log log' b t a.0 g a.2)) l.2,
)

pub hand_keep : (k : ℕ) (age age' : ℕ → ℕ) (spot spot' : ℕ → Spot) (h : Hand) → ((j : ℕ) → spot j ≡ at_desk → (spot' j ≡ spot j) × (age' j ≡ age j)) → InHand k age spot h → InHand k age' spot' h
hand_keep k age age' spot spot' Bare a h = tt
hand_keep k age age' spot spot' (Full j g) a h = let o = a j h.1 in (h.0, o.0 ∙ h.1, o.1 ∙ h.2)

pub length_take_drop : (m b : ℕ) (log : List Pushed) → b + m ≤ length log → length (map pushed_slot (take m (drop b log))) ≡ m
length_take_drop zero b log l = refl
length_take_drop (suc m) zero [] l = absurd (omega arith)
length_take_drop (suc m) zero (e ∷ log) l = let r = length_take_drop m 0 log (omega arith) in ap suc r ∙ (let g : suc m ≡ suc m = refl in g)
length_take_drop (suc m) (suc b) [] l = absurd (omega arith)
length_take_drop (suc m) (suc b) (e ∷ log) l = length_take_drop (suc m) b log (omega arith)

pub take_drop_longer : (m b : ℕ) (log : List Pushed) (e : Pushed) → b + m ≤ length log → take m (drop b (log ++ e ∷ [])) ≡ take m (drop b log)
take_drop_longer m zero log e l = take-append-le m log (e ∷ []) (omega arith)
take_drop_longer zero (suc b) [] e l = refl
take_drop_longer (suc m) (suc b) [] e l = absurd (omega arith)
take_drop_longer m (suc b) (x ∷ log) e l = take_drop_longer m b log e (omega arith)

pub take_next : (b : ℕ) (log : List Pushed) (e : Pushed) → get_elem? log b ≡ some e → take (b + 1) log ≡ take b log ++ e ∷ []
take_next b [] e h = absurd (some-ne-none e (sym h))
take_next zero (x ∷ log) e h = λ j. some-injective x e h j ∷ []
take_next (suc b) (x ∷ log) e h = ap (λ n. take n (x ∷ log)) (let g : suc b + 1 ≡ suc (b + 1) = omega arith in g) ∙ ap (λ l. x ∷ l) (take_next b log e h)

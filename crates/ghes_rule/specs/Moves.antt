-- What the steps make of the views, and what they tell.
use Rattle.std.specs.Prelude.{◌≡◌, ◌≢◌, ◌⊎◌, ℕ, zero, suc, ◌+◌, ◌-◌, ◌*◌, ◌/◌, ◌%◌, ◌^◌, ◌<◌, ◌≤◌, ◌==◌, Bool, true, false, List, [], ◌∷◌, ◌++◌, map, length, slice_index, slice_set, take, drop, replicate, Option, Some, None, vec_capacity}
use mathlib.Core.Option.{some, none}
use mathlib.Core.Option as maybe
use lib.ListN.{get_elem?}
use Rattle.atomic_table.specs.Table.{Me, Step}
use Rattle.ghes_call.specs.declared.packet.Packet.{Packet}
use Rattle.ghes_rule.specs.declared.views.Cell.{Cell}
use Rattle.ghes_rule.specs.declared.views.PacketView.{PacketView}
use Rattle.ghes_rule.specs.declared.views.Turn.{Turn}
use Rattle.ghes_rule.specs.declared.views.Pushed.{Pushed}
use Rattle.ghes_rule.specs.declared.views.Stage.{Stage}
use Rattle.ghes_rule.specs.declared.views.Stage.TheVariants.{Idle, Holding, Swapped}
use Rattle.ghes_rule.specs.declared.views.Hand.{Hand}
use Rattle.ghes_rule.specs.declared.views.Hand.TheVariants.{Bare, Full}
use Rattle.ghes_rule.specs.declared.views.PassView.{PassView}
use Rattle.ghes_rule.specs.declared.views.WorkView.{WorkView}
use Rattle.ghes_rule.specs.declared.views.View.{View}
use Rattle.ghes_rule.specs.declared.views.View.TheVariants.{OfPass, OfWork, Spent}
use Rattle.ghes_rule.specs.Kept.{Spot, In, when, count, count_in, of_pass, sum_to, turn, packet_view, CellOf, first_pass, first_work}

abbrev pub Sat : Type 0
Sat = Me (Option Cell) View

abbrev pub blank_pass : PassView
blank_pass = first_pass 0 0 0

abbrev pub pass_of : View → PassView
pass_of (OfPass v) = v
pass_of (OfWork w) = blank_pass
pass_of Spent = blank_pass

abbrev pub work_of : View → WorkView
work_of (OfPass v) = first_work 0 0 0
work_of (OfWork w) = w
work_of Spent = first_work 0 0 0

abbrev pub view_or : maybe.Option (Option PassView) → PassView
view_or none = blank_pass
view_or (some None) = blank_pass
view_or (some (Some v)) = v

-- the ended pass of that number
abbrev pub view_at : List (Option PassView) → ℕ → PassView
view_at ps p = view_or (get_elem? ps p)

abbrev pub all_back : List (Option PassView) → Bool
all_back [] = true
all_back (None ∷ ps) = false
all_back (Some v ∷ ps) = all_back ps

-- the first number whose pass is ended
abbrev pub first_back : List (Option PassView) → ℕ
first_back [] = 0
first_back (None ∷ ps) = suc (first_back ps)
first_back (Some v ∷ ps) = 0

abbrev pub in_hand : ℕ → Hand → ℕ
in_hand i Bare = 0
in_hand i (Full j g) = when (i == j)

abbrev pub tab : ℕ → ℕ → (ℕ → ℕ) → List ℕ
tab b zero f = []
tab b (suc n) f = f b ∷ tab (suc b) n f

-- how many claims of the slot have ended, where every pass is ended: those that were made, but for those of pushes not taken yet and of the held slot
abbrev pub ended_of : List (Option PassView) → List Pushed → Hand → ℕ → ℕ
ended_of ps taken held i = sum_to (length ps) (λ p. count i (view_at ps p).claims) + count_in i taken - (sum_to (length ps) (λ p. count_in i (view_at ps p).mine) + in_hand i held)

abbrev pub ended_if : Bool → List ℕ → List ℕ → List ℕ
ended_if true xs ys = xs
ended_if false xs ys = ys

-- the decoder after the join of a pass
abbrev pub joined : WorkView → PassView → WorkView
joined w v = let ps : List (Option PassView) = slice_set w.passes v.number (Some v) in
    record w { passes = ps; ended = ended_if (all_back ps) (tab 0 (length w.ended) (ended_of ps w.taken w.held)) w.ended }

abbrev pub join_views : View → View → View
join_views (OfWork w) (OfPass v) = OfWork (joined w v)
join_views d e = d

-- the decoder after the split into the first ended pass
abbrev pub without_first : WorkView → WorkView
without_first w = record w { passes = slice_set w.passes (first_back w.passes) None }

abbrev pub let_out : WorkView → PassView
let_out w = let v : PassView = view_at w.passes (first_back w.passes) in record v { since = w.ended }

abbrev pub split_left : View → View
split_left (OfWork w) = OfWork (without_first w)
split_left (OfPass v) = OfPass v
split_left Spent = Spent

abbrev pub split_right : View → View
split_right (OfWork w) = OfPass (let_out w)
split_right (OfPass v) = Spent
split_right Spent = Spent

-- some ended pass has a fatal block
abbrev pub HasFatal : WorkView → Type 0
HasFatal w = (q : ℕ) × (q < length w.passes) × ((x : PacketView) × ((view_at w.passes q).fatal ≡ Some x))

-- what the decoder knows where every pass is ended: of n passes, the pushes that are not taken, oldest first, and what the claims of the passes say of them
pub record Settled (w : WorkView) : Type 0 where
  pub pending : List Pushed
  pub owner : (e : Pushed) → In e (w.taken ++ pending) → e.pass < length w.passes
  pub mine : (p : ℕ) → p < length w.passes → (view_at w.passes p).mine ≡ of_pass p (w.taken ++ pending)
  pub claims : (p : ℕ) (c : Turn) → p < length w.passes → In c (view_at w.passes p).claims → c.turn < slice_index w.ended c.slot + count_in c.slot pending + in_hand c.slot w.held
  pub found : (p : ℕ) (c : Turn) → p < length w.passes → In c (view_at w.passes p).found → (q : ℕ) × (q < length w.passes) × In c (view_at w.passes q).claims
  pub numbers : (p : ℕ) → p < length w.passes → (view_at w.passes p).number ≡ p
  pub idle : (p : ℕ) → p < length w.passes → (view_at w.passes p).stage ≡ Idle
  pub panic : (p : ℕ) → p < length w.passes → In true (view_at w.passes p).loads → HasFatal w
  pub seen : In true w.loads → HasFatal w

abbrev pub At : Type 0
At = Step (Option Cell)

-- where the decoder has every pass, all is settled
abbrev pub Quietly : View → Type 0
Quietly d = (w : WorkView) → d ≡ OfWork w → all_back w.passes ≡ true → Settled w

abbrev pub told_settled : At → Sat → ℕ → Sat → Type 0
told_settled st m x m' = (m' ≡ m) × Quietly m'.0

-- the first i passes were let out
abbrev pub outs : ℕ → List (Option PassView) → List (Option PassView)
outs zero ps = ps
outs (suc i) [] = []
outs (suc i) (p ∷ ps) = None ∷ outs i ps

abbrev pub since_of : WorkView → ℕ → PassView
since_of w p = record (view_at w.passes p) { since = w.ended }

abbrev pub carried_of : Hand → List (ℕ × Option Cell)
carried_of Bare = []
carried_of (Full i g) = (i, None) ∷ []

-- all but the ended passes and the counts of ended claims is the same
pub record IsSameButPasses (w w' : WorkView) : Type 0 where
  pub room : w'.room ≡ w.room
  pub cursor : w'.cursor ≡ w.cursor
  pub walked : w'.walked ≡ w.walked
  pub held : w'.held ≡ w.held
  pub taken : w'.taken ≡ w.taken
  pub empties : w'.empties ≡ w.empties
  pub loads : w'.loads ≡ w.loads
  pub chains : w'.chains ≡ w.chains
  pub unsets : w'.unsets ≡ w.unsets
  pub as_many : length w'.passes ≡ length w.passes

-- the pass with a claim of the slot, and with a claim that it found running
abbrev pub with_claim : PassView → ℕ → ℕ → PassView
with_claim v i g = record v { steps = v.steps + 1; stage = Holding i g; claims = v.claims ++ turn i g ∷ [] }

abbrev pub with_found : PassView → ℕ → ℕ → PassView
with_found v i g = record v { steps = v.steps + 1; found = v.found ++ turn i g ∷ [] }

abbrev pub without_claim : PassView → PassView
without_claim v = record v { steps = v.steps + 1; stage = Idle }

-- a seat has the slot with an empty cell that has room
abbrev pub HasEmpty : ℕ → ℕ → List (ℕ × Option Cell) → Type 0
HasEmpty room i cs = (c : Cell) × (cs ≡ (i, Some c) ∷ []) × (c.packet.bytes.bytes ≡ []) × (room ≤ c.packet.bytes.room)

-- the word x of the slot: an even one gives the claim
abbrev pub tried : At → Sat → ℕ → Sat → Type 0
tried st m x m' = let v : PassView = pass_of m.0 in (x < 2 ^ 40) × ((x % 2 ≡ 0) → (m'.0 ≡ OfPass (with_claim v st.word (x / 2))) × HasEmpty v.room st.word m'.1)
    × ((x % 2 ≢ 0) → (m' ≡ (OfPass (with_found v st.word (x / 2)), m.1)) × (slice_index v.since st.word ≤ x / 2))

abbrev pub freed : At → Sat → ℕ → Sat → Type 0
freed st m x m' = m' ≡ (OfPass (without_claim (pass_of m.0)), [])

-- every push of every pass was taken
abbrev pub AllTaken : WorkView → Type 0
AllTaken w = (p : ℕ) → p < length w.passes → (view_at w.passes p).mine ≡ of_pass p w.taken

-- the decoder swapped the head for empty, and got x
abbrev pub with_chain : WorkView → ℕ → WorkView
with_chain w zero = record w { empties = w.empties + 1 }
with_chain w (suc i) = record w { cursor = suc i; chains = w.chains + 1 }

abbrev pub detached : At → Sat → ℕ → Sat → Type 0
detached st m x m' = let w : WorkView = work_of m.0 in (m' ≡ (OfWork (with_chain w x), m.1)) × (x ≤ st.slots) × (x ≡ 0 → all_back w.passes ≡ true → AllTaken w) × Quietly m'.0

-- the decoder loaded the link x of the slot at its cursor
abbrev pub with_link : WorkView → ℕ → WorkView
with_link w zero = record w { unsets = w.unsets + 1 }
with_link w (suc v) = record w { cursor = v; walked = (w.cursor - 1) ∷ w.walked }

abbrev pub walked_on : At → Sat → ℕ → Sat → Type 0
walked_on st m x m' = let w : WorkView = work_of m.0 in (m' ≡ (OfWork (with_link w x), m.1)) × (x ≤ st.slots + 1) × (length w.walked + 1 ≤ st.slots) × (all_back w.passes ≡ true → x ≢ 0) × Quietly m'.0

abbrev pub tail_of : List ℕ → List ℕ
tail_of [] = []
tail_of (x ∷ xs) = xs

abbrev pub with_taken : WorkView → Pushed → WorkView
with_taken w e = record w { walked = tail_of w.walked; held = Full e.slot e.turn; taken = w.taken ++ e ∷ [] }

-- the push e is the oldest that is not taken
abbrev pub IsOldest : Pushed → WorkView → Type 0
IsOldest e w = (rest : List Pushed) × (e.pass < length w.passes) × ((p : ℕ) → p < length w.passes → (view_at w.passes p).mine ≡ of_pass p (w.taken ++ e ∷ rest))

-- the decoder has the slot i, with the cell of the push e
abbrev pub took : ℕ → At → Sat → ℕ → Sat → Type 0
took i st m x m' = let w : WorkView = work_of m.0 in (e : Pushed) × (c : Cell) × (e.slot ≡ i) × (m' ≡ (OfWork (with_taken w e), (i, Some c) ∷ [])) × CellOf e c × (w.room ≤ c.packet.bytes.room) × (length e.packet.bytes ≤ w.room) × (e.turn < 2 ^ 40) × (all_back w.passes ≡ true → IsOldest e w) × Quietly m'.0

abbrev pub first_walked : List ℕ → ℕ
first_walked [] = 0
first_walked (x ∷ xs) = x

abbrev pub took_first : At → Sat → ℕ → Sat → Type 0
took_first st m x m' = took (first_walked (work_of m.0).walked) st m x m'

abbrev pub hand_slot : Hand → ℕ
hand_slot Bare = 0
hand_slot (Full i g) = i

abbrev pub with_given : WorkView → WorkView
with_given w = let i : ℕ = hand_slot w.held in record w { held = Bare; ended = slice_set w.ended i (slice_index w.ended i + 1) }

abbrev pub gave : At → Sat → ℕ → Sat → Type 0
gave st m x m' = (m' ≡ (OfWork (with_given (work_of m.0)), [])) × Quietly m'.0

abbrev pub turn_of : Stage → ℕ
turn_of Idle = 0
turn_of (Holding i g) = g
turn_of (Swapped i old) = 0

abbrev pub slot_of : Stage → ℕ
slot_of Idle = 0
slot_of (Holding i g) = i
slot_of (Swapped i old) = i

abbrev pub pushed_of : ℕ → ℕ → ℕ → Cell → Pushed
pushed_of p i g c = record { pass = p; slot = i; turn = g; packet = packet_view c.packet }

abbrev pub blank_push : ℕ → Pushed
blank_push p = record { pass = p; slot = 0; turn = 0; packet = record { source = 0; seq = 0; reason = None; bytes = [] } }

-- the push of what the seat has in hand
abbrev pub push_of : PassView → List (ℕ × Option Cell) → Pushed
push_of v [] = blank_push v.number
push_of v ((i, None) ∷ cs) = blank_push v.number
push_of v ((i, Some c) ∷ cs) = pushed_of v.number i (turn_of v.stage) c

abbrev pub with_push : PassView → ℕ → Pushed → PassView
with_push v x e = record v { steps = v.steps + 1; stage = Swapped e.slot x; mine = v.mine ++ e ∷ [] }

abbrev pub hung : At → Sat → ℕ → Sat → Type 0
hung st m x m' = let v : PassView = pass_of m.0 in (m' ≡ (OfPass (with_push v x (push_of v m.1)), [])) × (x ≤ st.slots)

abbrev pub linked_up : At → Sat → ℕ → Sat → Type 0
linked_up st m x m' = m' ≡ (OfPass (without_claim (pass_of m.0)), m.1)

-- the pass with one more load of the panic word
abbrev pub with_load : PassView → Bool → PassView
with_load v b = record v { steps = v.steps + 1; loads = v.loads ++ b ∷ [] }

-- a pass loaded the panic word: it is set at least where this pass has a fatal block
abbrev pub looked : At → Sat → ℕ → Sat → Type 0
looked st m x m' = (x ≤ 1) × (m' ≡ (OfPass (with_load (pass_of m.0) (x == 1)), m.1)) × ((y : PacketView) → (pass_of m.0).fatal ≡ Some y → x ≡ 1)

-- the decoder with one more load of the panic word
abbrev pub with_look : WorkView → Bool → WorkView
with_look w b = record w { loads = w.loads ++ b ∷ [] }

abbrev pub overlooked : At → Sat → ℕ → Sat → Type 0
overlooked st m x m' = let w : WorkView = work_of m.0 in (x ≤ 1) × (m' ≡ (OfWork (with_look w (x == 1)), m.1)) × Quietly m'.0

-- the pass with a fatal block
abbrev pub with_fatal : PassView → PacketView → PassView
with_fatal v x = record v { steps = v.steps + 1; fatal = Some x }

abbrev pub stopped_with : PacketView → At → Sat → ℕ → Sat → Type 0
stopped_with p st m x m' = m' ≡ (OfPass (with_fatal (pass_of m.0) p), m.1)

-- where every pass is ended, all is settled
abbrev pub SettledIf : WorkView → Type 0
SettledIf w = all_back w.passes ≡ true → Settled w

-- the decoder swapped the head for none: a chain hung there, or none
abbrev pub IsDetached : WorkView → WorkView → Bool → Type 0
IsDetached w w' true = (x : ℕ) × (0 < x) × (w' ≡ with_chain w x)
IsDetached w w' false = w' ≡ with_chain w 0

-- the decoder loaded the link at its cursor: it was set, or unset
abbrev pub IsWalked : WorkView → WorkView → Bool → Type 0
IsWalked w w' true = (x : ℕ) × (0 < x) × (w' ≡ with_link w x)
IsWalked w w' false = w' ≡ with_link w 0

-- the push of a packet by a pass, under a claim
abbrev pub pushed_from : ℕ → ℕ → ℕ → Packet → Pushed
pushed_from p i g x = record { pass = p; slot = i; turn = g; packet = packet_view x }

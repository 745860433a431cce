-- What always holds of the words, the slots and the views, between any two steps.
-- All pushes ever made stand in one list, the log. Those before the mark `from` are taken, those up to `walk` are the rest of the
-- detached chain, those up to `top` were walked, and the others hang at the head.
use Rattle.std.specs.Prelude.{◌≡◌, ◌≢◌, ◌⊎◌, ℕ, zero, suc, ◌+◌, ◌-◌, ◌*◌, ◌^◌, ◌<◌, ◌≤◌, ◌==◌, Bool, true, false, List, [], ◌∷◌, ◌++◌, map, length, slice_index, slice_set, take, drop, replicate, Option, Some, None, vec_capacity}
use mathlib.Core.Option.{some, none}
use mathlib.Core.Option as maybe
use lib.ListN.{get_elem?}
use Rattle.atomic_table.specs.Table.{State}
use Rattle.ghes_call.specs.declared.packet.Packet.{Packet}
use Rattle.ghes_rule.specs.declared.views.Cell.{Cell}
use Rattle.ghes_rule.specs.declared.views.PacketView.{PacketView}
use Rattle.ghes_rule.specs.declared.views.Turn.{Turn}
use Rattle.ghes_rule.specs.declared.views.Pushed.{Pushed}
use Rattle.ghes_rule.specs.declared.views.Stage.{Stage}
use Rattle.ghes_rule.specs.declared.views.Stage.TheVariants.{Idle, Holding, Swapped}
use Rattle.ghes_rule.specs.declared.views.Hand.{Hand}
use Rattle.ghes_rule.specs.declared.views.Hand.TheVariants.{Bare, Full}
use Rattle.ghes_rule.specs.declared.views.PassView.{PassView}
use Rattle.ghes_rule.specs.declared.views.WorkView.{WorkView}
use Rattle.ghes_rule.specs.declared.views.View.{View}
use Rattle.ghes_rule.specs.declared.views.View.TheVariants.{OfPass, OfWork, Spent}

-- where a slot is: free, with a pass, waiting as the push of that number, or with the decoder
pub data Spot : Type 0 where
  free : Spot
  with_pass : ℕ → Spot
  waits : ℕ → Spot
  at_desk : Spot

abbrev pub busy : Spot → ℕ
busy free = 0
busy (with_pass p) = 1
busy (waits t) = 1
busy at_desk = 1

abbrev pub In : {A : Type 0} → A → List A → Type 0
In x [] = ⊥
In x (y ∷ ys) = (x ≡ y) ⊎ In x ys

abbrev pub when : Bool → ℕ
when true = 1
when false = 0

-- how many of the claims are of the slot
abbrev pub count : ℕ → List Turn → ℕ
count i [] = 0
count i (c ∷ cs) = when (i == c.slot) + count i cs

-- how many of the pushes were from the slot
abbrev pub count_in : ℕ → List Pushed → ℕ
count_in i [] = 0
count_in i (e ∷ es) = when (i == e.slot) + count_in i es

abbrev pub kept_if : {A : Type 0} → Bool → A → List A → List A
kept_if true x l = x ∷ l
kept_if false x l = l

-- the pushes of a pass
abbrev pub of_pass : ℕ → List Pushed → List Pushed
of_pass p [] = []
of_pass p (e ∷ es) = kept_if (p == e.pass) e (of_pass p es)

-- the sum of f over the numbers below n
abbrev pub sum_to : ℕ → (ℕ → ℕ) → ℕ
sum_to zero f = 0
sum_to (suc n) f = f n + sum_to n f

abbrev pub turn : ℕ → ℕ → Turn
turn i g = record { slot = i; turn = g }

abbrev pub pushed_slot : Pushed → ℕ
pushed_slot e = e.slot

-- v names the push before t, and is 0 where t is the bottom b
abbrev pub IsBelow : List Pushed → ℕ → ℕ → ℕ → Type 0
IsBelow log b t v = ((t ≡ b) × (v ≡ 0)) ⊎ ((u : ℕ) × (e : Pushed) × (t ≡ u + 1) × (b ≤ u) × (get_elem? log u ≡ some e) × (v ≡ e.slot + 1))

-- what a view keeps of a packet
abbrev pub packet_view : Packet → PacketView
packet_view x = record { source = x.source; seq = x.seq; reason = x.reason; bytes = x.bytes.bytes }

-- the cell has what was pushed
abbrev pub CellOf : Pushed → Cell → Type 0
CellOf e c = (c.pass ≡ e.pass) × (c.turn ≡ e.turn) × (packet_view c.packet ≡ e.packet)

module _ (k room : ℕ) (words : List ℕ) (homes : List (maybe.Option (Option Cell))) (log : List Pushed) (from age i : ℕ) where
  abbrev pub At : Spot → Type 0
  At free = (slice_index words i ≡ 2 * age) × (slice_index words (k + i) ≡ 0) × ((c : Cell) × (get_elem? homes i ≡ some (some (Some c))) × (c.packet.bytes.bytes ≡ []) × (room ≤ c.packet.bytes.room))
  At (with_pass p) = (slice_index words i ≡ 2 * age + 1) × (slice_index words (k + i) ≡ 0) × (get_elem? homes i ≡ some none)
  At (waits t) = (slice_index words i ≡ 2 * age + 1) × (from ≤ t) × (t < length log) × ((e : Pushed) × (c : Cell) × (get_elem? log t ≡ some e) × (e.slot ≡ i) × (e.turn ≡ age) × (get_elem? homes i ≡ some (some (Some c))) × CellOf e c × (room ≤ c.packet.bytes.room) × (length e.packet.bytes ≤ room))
  At at_desk = (slice_index words i ≡ 2 * age + 1) × (slice_index words (k + i) ≡ 0) × (get_elem? homes i ≡ some none)

pub record Slots (k room : ℕ) (words : List ℕ) (homes : List (maybe.Option (Option Cell))) (log : List Pushed) (from : ℕ) (age : ℕ → ℕ) (spot : ℕ → Spot) : Type 0 where
  pub wide : length words ≡ 2 * k + 2
  pub deep : length homes ≡ k
  pub each : (i : ℕ) → i < k → At k room words homes log from (age i) i (spot i)

module _ (k : ℕ) (words : List ℕ) (log : List Pushed) (age : ℕ → ℕ) (spot : ℕ → Spot) (p : ℕ) where
  abbrev pub InStage : Stage → Type 0
  InStage Idle = Unit {0}
  InStage (Holding i g) = (i < k) × (spot i ≡ with_pass p) × (age i ≡ g)
  InStage (Swapped i old) = (i < k) × ((t : ℕ) × (e : Pushed) × (spot i ≡ waits t) × (get_elem? log t ≡ some e) × (e.pass ≡ p) × (slice_index words (k + i) ≡ 0))

  pub record PassOk (room : ℕ) (v : PassView) : Type 0 where
    pub number : v.number ≡ p
    pub room_is : v.room ≡ room
    pub stage : InStage v.stage
    pub mine : v.mine ≡ of_pass p log
    pub since : (i : ℕ) → i < k → slice_index v.since i ≤ age i

-- total i is the number of claims of the slot i so far
pub record Counts (k n : ℕ) (total : ℕ → ℕ) (pass : ℕ → PassView) : Type 0 where
  pub few : n ≤ 16
  pub counted : (i : ℕ) → i < k → sum_to n (λ p. count i (pass p).claims) ≡ total i
  pub each : (i g : ℕ) → i < k → g < total i → (p : ℕ) × (p < n) × In (turn i g) (pass p).claims
  pub bounded : (p : ℕ) (c : Turn) → p < n → In c (pass p).claims → (c.slot < k) × (c.turn < total c.slot)
  pub found : (p : ℕ) (c : Turn) → p < n → In c (pass p).found → (q : ℕ) × (q < n) × In c (pass q).claims
  pub short : (p : ℕ) → p < n → length (pass p).claims ≤ 2 ^ 32

-- the effective link of the push t names the push before it
abbrev pub Linked : ℕ → List ℕ → List Pushed → (ℕ → PassView) → ℕ → ℕ → Type 0
Linked k words log pass b t = (e : Pushed) × (get_elem? log t ≡ some e)
    × ((((slice_index words (k + e.slot) ≡ 0) × ((old : ℕ) × ((pass e.pass).stage ≡ Swapped e.slot old) × IsBelow log b t old)))
    ⊎ ((v : ℕ) × (slice_index words (k + e.slot) ≡ v + 1) × IsBelow log b t v))

pub record Chain (k n : ℕ) (words : List ℕ) (log : List Pushed) (spot : ℕ → Spot) (pass : ℕ → PassView) (from walk top : ℕ) : Type 0 where
  pub marks : (from ≤ walk) × (walk ≤ top) × (top ≤ length log)
  pub passes : (t : ℕ) (e : Pushed) → get_elem? log t ≡ some e → e.pass < n
  pub pending : (t : ℕ) → from ≤ t → t < length log → (e : Pushed) × (get_elem? log t ≡ some e) × (e.slot < k) × (spot e.slot ≡ waits t)
  pub rest : (t : ℕ) → from ≤ t → t < walk → Linked k words log pass from t
  pub walked : (t : ℕ) (e : Pushed) → walk ≤ t → t < top → get_elem? log t ≡ some e → slice_index words (k + e.slot) ≢ 0
  pub hangs : (t : ℕ) → top ≤ t → t < length log → Linked k words log pass top t
  pub head : IsBelow log top (length log) (slice_index words (2 * k))

abbrev pub InHand : ℕ → (ℕ → ℕ) → (ℕ → Spot) → Hand → Type 0
InHand k age spot Bare = Unit {0}
InHand k age spot (Full i g) = (i < k) × (spot i ≡ at_desk) × (age i ≡ g)

pub record DeskOk (k n room : ℕ) (log : List Pushed) (age : ℕ → ℕ) (spot : ℕ → Spot) (seat : ℕ → ℕ) (from walk top : ℕ) (w : WorkView) : Type 0 where
  pub room_is : w.room ≡ room
  pub cursor : IsBelow log from walk w.cursor
  pub walked : (m : ℕ) × (walk + m ≡ top) × (w.walked ≡ map pushed_slot (take m (drop walk log)))
  pub taken : w.taken ≡ take from log
  pub hand : InHand k age spot w.held
  pub hand_end : (i g : ℕ) → w.held ≡ Full i g → w.cursor ≡ 0
  pub desk : (i : ℕ) → i < k → spot i ≡ at_desk → w.held ≡ Full i (age i)
  pub holder : (i p : ℕ) → i < k → spot i ≡ with_pass p → p < n
  pub as_long : length w.ended ≡ k
  pub ended : (i : ℕ) → i < k → slice_index w.ended i ≤ age i
  pub all_ended : ((p : ℕ) → p < n → seat p ≡ 0) → (i : ℕ) → i < k → slice_index w.ended i ≡ age i

abbrev pub holds_none : Stage → Type 0
holds_none s = s ≡ Idle

abbrev pub Knows : ℕ → (ℕ → ℕ) → (ℕ → PassView) → ℕ → WorkView → ℕ → View → Type 0
Knows n seat pass chair desk j (OfPass v) = (v.number < n) × (seat v.number ≡ j + 1) × (pass v.number ≡ v)
Knows n seat pass chair desk j (OfWork w) = (j ≡ chair) × (w ≡ desk)
Knows n seat pass chair desk j Spent = Unit {0}

-- seat p is 0 where the pass p is ended, and else 1 more than the number of its seat
pub record Seats (n : ℕ) (views : List View) (seat : ℕ → ℕ) (pass : ℕ → PassView) (chair : ℕ) (desk : WorkView) : Type 0 where
  pub as_many : length desk.passes ≡ n
  pub out : (p : ℕ) → p < n → 0 < seat p → get_elem? desk.passes p ≡ some None
  pub ended : (p : ℕ) → p < n → seat p ≡ 0 → (get_elem? desk.passes p ≡ some (Some (pass p))) × ((pass p).stage ≡ Idle)
  pub there : get_elem? views chair ≡ some (OfWork desk)
  pub live : (p : ℕ) → p < n → 0 < seat p → get_elem? views (seat p - 1) ≡ some (OfPass (pass p))
  pub each : (j : ℕ) (d : View) → get_elem? views j ≡ some d → Knows n seat pass chair desk j d

-- a slot with a pass is held by it
abbrev pub Held : ℕ → (ℕ → ℕ) → (ℕ → Spot) → (ℕ → PassView) → Type 0
Held k age spot pass = (i p : ℕ) → i < k → spot i ≡ with_pass p → (pass p).stage ≡ Holding i (age i)

-- the panic word is set exactly where some pass has a fatal block, and was loaded set only where it is set
pub record Panic (k n : ℕ) (words : List ℕ) (pass : ℕ → PassView) (desk : WorkView) : Type 0 where
  pub word : (slice_index words (2 * k + 1) ≡ 0) ⊎ (slice_index words (2 * k + 1) ≡ 1)
  pub fatal : slice_index words (2 * k + 1) ≡ 1 → (p : ℕ) × (p < n) × ((x : PacketView) × ((pass p).fatal ≡ Some x))
  pub set : (p : ℕ) (x : PacketView) → p < n → (pass p).fatal ≡ Some x → slice_index words (2 * k + 1) ≡ 1
  pub loads : (p : ℕ) → p < n → In true (pass p).loads → slice_index words (2 * k + 1) ≡ 1
  pub desk_loads : In true desk.loads → slice_index words (2 * k + 1) ≡ 1

pub record IsKept (room n : ℕ) (s : State (Option Cell) View) : Type 0 where
  pub k : ℕ
  pub spot : ℕ → Spot
  pub age : ℕ → ℕ
  pub pass : ℕ → PassView
  pub seat : ℕ → ℕ
  pub desk : WorkView
  pub chair : ℕ
  pub log : List Pushed
  pub from : ℕ
  pub walk : ℕ
  pub top : ℕ
  pub slots : Slots k room s.words s.homes log from age spot
  pub passes : (p : ℕ) → p < n → PassOk k s.words log age spot p room (pass p)
  pub held : Held k age spot pass
  pub counts : Counts k n (λ i. age i + busy (spot i)) pass
  pub chain : Chain k n s.words log spot pass from walk top
  pub work : DeskOk k n room log age spot seat from walk top desk
  pub seats : Seats n s.views seat pass chair desk
  pub panic : Panic k n s.words pass desk

abbrev pub first_pass : ℕ → ℕ → ℕ → PassView
first_pass room k p = record { number = p; room = room; steps = 0; stage = Idle; mine = []; fatal = None; claims = []; found = []; since = replicate k 0; loads = [] }

abbrev pub first_passes : ℕ → ℕ → ℕ → ℕ → List (Option PassView)
first_passes room k p zero = []
first_passes room k p (suc n) = Some (first_pass room k p) ∷ first_passes room k (p + 1) n

abbrev pub first_work : ℕ → ℕ → ℕ → WorkView
first_work room k n = record { room = room; cursor = 0; walked = []; held = Bare; taken = []; ended = replicate k 0; passes = first_passes room k 0 n; loads = []; empties = 0; chains = 0; unsets = 0 }

abbrev pub first_view : ℕ → ℕ → ℕ → View
first_view room k n = OfWork (first_work room k n)

-- The rule: what holds of the words, the slots and the views between any two steps, whoever makes them (own choice).
use Rattle.std.specs.Prelude.{◌≡◌, ◌≢◌, ◌⊎◌, ℕ, ◌+◌, ◌-◌, ◌*◌, ◌^◌, ◌<◌, ◌≤◌, ◌==◌, Bool, true, false, List, [], ◌∷◌, ◌++◌, map, length, slice_index, take, Option, Some, None}
use mathlib.Core.Option.{some, none}
use mathlib.Core.Option as maybe
use lib.ListN.{get_elem?}
use Rattle.atomic_table.specs.Table.{State}
use Rattle.ghes_rule.specs.declared.views.Cell.{Cell}
use Rattle.ghes_rule.specs.declared.views.PacketView.{PacketView}
use Rattle.ghes_rule.specs.declared.views.Turn.{Turn}
use Rattle.ghes_rule.specs.declared.views.Pushed.{Pushed}
use Rattle.ghes_rule.specs.declared.views.Stage.{Stage}
use Rattle.ghes_rule.specs.declared.views.Stage.TheVariants.{Idle, Holding, Swapped}
use Rattle.ghes_rule.specs.declared.views.Hand.TheVariants.{Bare, Full}
use Rattle.ghes_rule.specs.declared.views.PassView.{PassView}
use Rattle.ghes_rule.specs.declared.views.WorkView.{WorkView}
use Rattle.ghes_rule.specs.declared.views.View.{View}
use Rattle.ghes_rule.specs.declared.views.View.TheVariants.{OfPass, OfWork}
use Rattle.ghes_rule.specs.Kept.{In, when, count, count_in, of_pass, sum_to, turn, pushed_slot, CellOf}
use Rattle.ghes_rule.specs.Moves.{in_hand, view_at}

-- the words, with k slots
abbrev pub slot_word : List ℕ → ℕ → ℕ
slot_word words i = slice_index words i

abbrev pub link_word : ℕ → List ℕ → ℕ → ℕ
link_word k words i = slice_index words (k + i)

abbrev pub head_word : ℕ → List ℕ → ℕ
head_word k words = slice_index words (2 * k)

abbrev pub panic_word : ℕ → List ℕ → ℕ
panic_word k words = slice_index words (2 * k + 1)

-- whether a pass holds the slot
abbrev pub holds : ℕ → Stage → ℕ
holds i Idle = 0
holds i (Holding j g) = when (i == j)
holds i (Swapped j old) = 0

-- whether the slot is free: its word is even
abbrev pub is_free : ℕ → ℕ → ℕ
is_free word g = when (word == 2 * g)

-- a number names the newest of a list that is given oldest first: 1 more than its slot, or 0 where the list is empty
abbrev pub Names : ℕ → List Pushed → Type 0
Names v es = ((es ≡ []) × (v ≡ 0)) ⊎ ((older : List Pushed) × (e : Pushed) × (es ≡ older ++ e ∷ []) × (v ≡ e.slot + 1))

module _ (k : ℕ) (words : List ℕ) (pass : ℕ → PassView) where
  -- the effective link of a push: its link word, or while that is unset, what its pass got from the head
  abbrev pub LinkIs : Pushed → ℕ → Type 0
  LinkIs e v = (link_word k words e.slot ≡ v + 1) ⊎ ((link_word k words e.slot ≡ 0) × ((pass e.pass).stage ≡ Swapped e.slot v))

  -- from the number v the effective links lead through these pushes, given oldest first, and end
  abbrev pub IsChain : ℕ → List Pushed → Type 0
  IsChain v es = Names v es × ((t : ℕ) (e : Pushed) → get_elem? es t ≡ some e → (x : ℕ) × LinkIs e x × Names x (take t es))

-- 1. each number has one pass, live or ended
pub record HasPasses (n : ℕ) (views : List View) (desk : WorkView) (pass : ℕ → PassView) : Type 0 where
  pub each : (p : ℕ) → p < n → ((j : ℕ) × (get_elem? views j ≡ some (OfPass (pass p)))) ⊎ ((get_elem? desk.passes p ≡ some (Some (pass p))) × ((pass p).stage ≡ Idle))
  pub number : (p : ℕ) → p < n → (pass p).number ≡ p
  pub live : (j : ℕ) (v : PassView) → get_elem? views j ≡ some (OfPass v) → (v.number < n) × (pass v.number ≡ v) × (get_elem? desk.passes v.number ≡ some None)
  pub once : (i j : ℕ) (u v : PassView) → get_elem? views i ≡ some (OfPass u) → get_elem? views j ≡ some (OfPass v) → u.number ≡ v.number → i ≡ j
  pub decoder : (j : ℕ) × (get_elem? views j ≡ some (OfWork desk)) × ((i : ℕ) (w : WorkView) → get_elem? views i ≡ some (OfWork w) → i ≡ j)

-- 3. slots and claims, where g i claims of the slot i have ended
pub record HasClaims (k n room : ℕ) (words : List ℕ) (homes : List (maybe.Option (Option Cell))) (desk : WorkView) (pass : ℕ → PassView) (g : ℕ → ℕ) (pending : List Pushed) : Type 0 where
  pub word : (i : ℕ) → i < k → (slot_word words i ≡ 2 * g i) ⊎ (slot_word words i ≡ 2 * g i + 1)
  pub free : (i : ℕ) → i < k → slot_word words i ≡ 2 * g i → (link_word k words i ≡ 0) × ((c : Cell) × (get_elem? homes i ≡ some (some (Some c))) × (c.packet.bytes.bytes ≡ []))
  pub home : (i : ℕ) (c : Cell) → i < k → get_elem? homes i ≡ some (some (Some c)) → (length c.packet.bytes.bytes ≤ room) × (room ≤ c.packet.bytes.room)
  pub few : (p : ℕ) → p < n → length (pass p).claims ≤ 2 ^ 32
  pub sum : (i : ℕ) → i < k → 2 * sum_to n (λ p. count i (pass p).claims) ≡ slot_word words i + (slot_word words i - 2 * g i)
  pub each : (i h : ℕ) → i < k → 2 * h < slot_word words i → (p : ℕ) × (p < n) × In (turn i h) (pass p).claims
  pub holding : (p i h : ℕ) → p < n → (pass p).stage ≡ Holding i h → slot_word words i ≡ 2 * h + 1
  pub pushed : (e : Pushed) → In e pending → slot_word words e.slot ≡ 2 * e.turn + 1
  pub held : (i h : ℕ) → desk.held ≡ Full i h → slot_word words i ≡ 2 * h + 1
  pub found : (p : ℕ) (c : Turn) → p < n → In c (pass p).found → (q : ℕ) × (q < n) × In c (pass q).claims
  pub since : (p i : ℕ) → p < n → i < k → slice_index (pass p).since i ≤ g i
  pub ended : (i : ℕ) → i < k → slice_index desk.ended i ≤ g i
  pub all_ended : ((p : ℕ) → p < n → get_elem? desk.passes p ≡ some (Some (pass p))) → (i : ℕ) → i < k → slice_index desk.ended i ≡ g i

-- the eight facts. The lists of pushes are given oldest first
pub record HasRule (room n : ℕ) (s : State (Option Cell) View) : Type 0 where
  pub k : ℕ
  pub g : ℕ → ℕ
  pub desk : WorkView
  pub pass : ℕ → PassView
  pub rest : List Pushed
  pub walked : List Pushed
  pub head : List Pushed
  pub layout : (length s.words ≡ 2 * k + 2) × (length s.homes ≡ k)
  -- 1. each number has one pass
  pub passes : HasPasses n s.views desk pass
  -- 2. each slot is in one place: free, with a pass, in one of the three lists, once, or in the decoder's hand
  pub places : (i : ℕ) → i < k → is_free (slot_word s.words i) (g i) + sum_to n (λ p. holds i (pass p).stage) + count_in i rest + count_in i walked + count_in i head + in_hand i desk.held ≡ 1
  -- 3. slots and claims
  pub claims : HasClaims k n room s.words s.homes desk pass g (rest ++ (walked ++ head))
  -- 4. a slot that is held has an unset link and is out
  pub holding : (p i h : ℕ) → p < n → (pass p).stage ≡ Holding i h → (i < k) × (link_word k s.words i ≡ 0) × (get_elem? s.homes i ≡ some none)
  pub held : (i h : ℕ) → desk.held ≡ Full i h → (i < k) × (link_word k s.words i ≡ 0) × (get_elem? s.homes i ≡ some none)
  -- 5. the lists follow effective links, and their packets are at home
  pub at_head : IsChain k s.words pass (head_word k s.words) head
  pub at_cursor : IsChain k s.words pass desk.cursor rest
  pub were_walked : desk.walked ≡ map pushed_slot walked
  pub at_home : (e : Pushed) → In e (rest ++ (walked ++ head)) → (e.slot < k) × (e.pass < n) × ((c : Cell) × (get_elem? s.homes e.slot ≡ some (some (Some c))) × CellOf e c)
  -- 6. a slot that was swapped in is pending with an unset link, and a pending slot with an unset link was swapped in by its pass
  pub swapped : (p i old : ℕ) → p < n → (pass p).stage ≡ Swapped i old → (e : Pushed) × (In e rest ⊎ In e head) × (e.slot ≡ i) × (e.pass ≡ p) × (link_word k s.words i ≡ 0)
  pub unset : (e : Pushed) → In e rest ⊎ In e head → link_word k s.words e.slot ≡ 0 → (old : ℕ) × ((pass e.pass).stage ≡ Swapped e.slot old)
  pub set : (e : Pushed) → In e walked → link_word k s.words e.slot ≢ 0
  -- 7. what each pass pushed was taken or is pending, in this order
  pub order : (p : ℕ) → p < n → (pass p).mine ≡ of_pass p (desk.taken ++ (rest ++ (walked ++ head)))
  -- 8. the decoder's hand, and the panic word
  pub end : (i h : ℕ) → desk.held ≡ Full i h → desk.cursor ≡ 0
  pub clear : (panic_word k s.words ≡ 0) ⊎ (panic_word k s.words ≡ 1)
  pub fatal : panic_word k s.words ≡ 1 → (p : ℕ) × (p < n) × ((x : PacketView) × ((pass p).fatal ≡ Some x))
  pub panic : (p : ℕ) (x : PacketView) → p < n → (pass p).fatal ≡ Some x → panic_word k s.words ≡ 1
  pub loaded : (p : ℕ) → p < n → In true (pass p).loads → panic_word k s.words ≡ 1
  pub decoder_loaded : In true desk.loads → panic_word k s.words ≡ 1

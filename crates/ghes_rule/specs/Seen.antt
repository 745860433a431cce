-- What contracts see of the shared object, of a pass and of the decoder, and what ties it to the seats.
use Rattle.std.specs.Prelude.{◌≡◌, ℕ, ◌+◌, ◌*◌, ◌^◌, ◌<◌, ◌≤◌, List, [], ◌∷◌, length, reverse, vec_capacity, Option, Some, None}
use Rattle.atomic_table.specs.Seated.{TableId}
use Rattle.ghes_rule.specs.declared.views.Cell.{Cell}
use Rattle.ghes_rule.specs.declared.views.Stage.{Stage}
use Rattle.ghes_rule.specs.declared.views.Stage.TheVariants.{Idle, Holding, Swapped}
use Rattle.ghes_rule.specs.declared.views.Hand.{Hand}
use Rattle.ghes_rule.specs.declared.views.Hand.TheVariants.{Bare, Full}
use Rattle.ghes_rule.specs.declared.views.PassView.{PassView}
use Rattle.ghes_rule.specs.declared.views.WorkView.{WorkView}
use Rattle.ghes_rule.specs.declared.views.View.TheVariants.{OfPass, OfWork}
use Rattle.ghes_rule.specs.declared.words.About.{About}
use Rattle.ghes_rule.specs.declared.work.Trail.{Trail}
use mathlib.Core.Option.{some}
use lib.ListN.{get_elem?}
use Rattle.ghes_rule.specs.Kept.{first_pass, first_work}
use Rattle.ghes_rule.specs.Moves.{Sat, pass_of, work_of, carried_of, HasEmpty, outs, since_of}

-- what contracts see of a pass: which shared object it belongs to, and what it knows (own choice)
pub record PassSeen : Type 0 where
  pub table : TableId
  pub view : PassView

abbrev pub pass_seen : TableId → PassView → PassSeen
pass_seen z v = record { table = z; view = v }

-- what contracts see of the decoder: which shared object it belongs to, and what it knows (own choice)
pub record WorkSeen : Type 0 where
  pub table : TableId
  pub view : WorkView

-- a table of so many slots is laid out as words.rt says
pub record SharedFits (slots block_len : ℕ) (z : TableId) (about : About) : Type 0 where
  pub words : z.words ≡ 2 * slots + 2
  pub homes : z.slots ≡ slots
  pub some : 0 < slots
  pub few : slots ≤ 64
  pub room : about.room ≡ block_len

-- what the seat of a pass has out: while it holds a claim, the slot with an empty packet
abbrev pub Carries : ℕ → ℕ → Stage → List (ℕ × Option Cell) → Type 0
Carries k room Idle cs = cs ≡ []
Carries k room (Holding i g) cs = (i < k) × (g < 2 ^ 40) × HasEmpty room i cs
Carries k room (Swapped i old) cs = (i < k) × (old ≤ k) × (cs ≡ [])

-- the seat of a pass is that of its number, and has out what its view says
pub record PassFits (k number : ℕ) (me : Sat) : Type 0 where
  pub is : me.0 ≡ OfPass (pass_of me.0)
  pub numbered : (pass_of me.0).number ≡ number
  pub carries : Carries k (pass_of me.0).room (pass_of me.0).stage me.1

abbrev pub AllBelow : ℕ → List ℕ → Type 0
AllBelow k [] = Unit {0}
AllBelow k (x ∷ xs) = (x < k) × AllBelow k xs

-- what the decoder has at hand is what its view says, and there is room for all slots
pub record IsTrail (slots : ℕ) (t : Trail) (w : WorkView) : Type 0 where
  pub cursor : t.cursor ≡ w.cursor
  pub items : t.slots.items ≡ reverse w.walked
  pub low : w.cursor ≤ slots
  pub below : AllBelow slots w.walked
  pub short : length w.walked ≤ slots
  pub room : slots ≤ vec_capacity t.slots

abbrev pub HandFits : ℕ → Hand → Type 0
HandFits k Bare = Unit {0}
HandFits k (Full i g) = (i < k) × (g < 2 ^ 40)

-- the decoder's seat has out what its view says, and its memory is the chain of its view
pub record WorkFits (k : ℕ) (t : Trail) (me : Sat) : Type 0 where
  pub is : me.0 ≡ OfWork (work_of me.0)
  pub in_hand : me.1 ≡ carried_of (work_of me.0).held
  pub hand : HandFits k (work_of me.0).held
  pub trail : IsTrail k t (work_of me.0)

-- n slots, each with an empty cell that has room
abbrev pub AreEmptyCells : ℕ → ℕ → List (Option Cell) → Type 0
AreEmptyCells room n xs = (length xs ≡ n) × ((i : ℕ) → i < n → (c : Cell) × (get_elem? xs i ≡ some (Some c)) × (c.packet.bytes.bytes ≡ []) × (room ≤ c.packet.bytes.room))

-- the first n passes by number, each as w has it, with the counts of ended claims that w has
abbrev pub AreLetOut : TableId → WorkView → ℕ → List PassSeen → Type 0
AreLetOut z w n xs = (length xs ≡ n) × ((q : ℕ) → q < n → get_elem? xs q ≡ some (pass_seen z (since_of w q)))

-- n passes by number, which know nothing yet
abbrev pub AreFirst : TableId → ℕ → ℕ → ℕ → List PassSeen → Type 0
AreFirst z room k n xs = (length xs ≡ n) × ((q : ℕ) → q < n → get_elem? xs q ≡ some (pass_seen z (first_pass room k q)))

-- the decoder at the start, with all passes let out
abbrev pub at_work : ℕ → ℕ → ℕ → WorkView
at_work room k n = let w : WorkView = first_work room k n in record w { passes = outs n w.passes }

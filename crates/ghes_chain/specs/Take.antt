-- What a take does to the decoder's view.
use Rattle.std.specs.Prelude.{◌≡◌, ◌≢◌, ℕ, ◌+◌, ◌^◌, ◌<◌, ◌≤◌, Bool, true, false, List, [], ◌∷◌, ◌++◌, length}
use Rattle.ghes_rule.specs.declared.views.Pushed.{Pushed}
use Rattle.ghes_rule.specs.declared.views.Hand.TheVariants.{Bare, Full}
use Rattle.ghes_rule.specs.declared.views.WorkView.{WorkView}
use Rattle.ghes_rule.specs.declared.steps.take.Held.{Held}
use Rattle.ghes_rule.specs.Kept.{CellOf}
use Rattle.ghes_rule.specs.Moves.{all_back, IsOldest}
use Rattle.ghes_chain.specs.declared.taking.Took.{Took}
use Rattle.ghes_chain.specs.declared.taking.Took.TheVariants.{Packet, Empty, Again}

-- nothing was taken or given back, and no pass came or went (own choice)
pub record IsSameButChain (w w' : WorkView) : Type 0 where
  pub room : w'.room ≡ w.room
  pub held : w'.held ≡ w.held
  pub taken : w'.taken ≡ w.taken
  pub ended : w'.ended ≡ w.ended
  pub passes : w'.passes ≡ w.passes
  pub loads : w'.loads ≡ w.loads

-- the chain at hand is the one that was at hand before: none was detached, and what was walked of it stays walked. Where none was at
-- hand before, one was detached (own choice)
pub record KeepsChain (w w' : WorkView) : Type 0 where
  pub same : 0 < w.cursor + length w.walked → w'.chains ≡ w.chains
  pub new : w.cursor + length w.walked ≡ 0 → w'.chains ≡ w.chains + 1
  pub walked : (more : List ℕ) × (w'.walked ≡ more ++ w.walked)

-- a chain is at hand: it was before, or it was detached
pub record GotChain (w w' : WorkView) : Type 0 where
  pub on : IsSameButChain w w'
  pub empties : w'.empties ≡ w.empties
  pub unsets : w'.unsets ≡ w.unsets
  pub chain : KeepsChain w w'
  pub some : 0 < w'.cursor + length w'.walked

-- the end of the chain was reached, or an unset link was met
pub record IsSeen (w w' : WorkView) (done : Bool) : Type 0 where
  pub on : IsSameButChain w w'
  pub empties : w'.empties ≡ w.empties
  pub chains : w'.chains ≡ w.chains
  pub walked : (more : List ℕ) × (w'.walked ≡ more ++ w.walked)
  pub some : 0 < w.cursor + length w.walked → 0 < w'.cursor + length w'.walked
  pub end : done ≡ true → (w'.cursor ≡ 0) × (w'.unsets ≡ w.unsets)
  pub unset : done ≡ false → (0 < w'.cursor) × (w'.unsets ≡ w.unsets + 1)
  pub quiet : all_back w.passes ≡ true → done ≡ true

-- the oldest packet of the chain was taken, and is in hand (own choice)
pub record HasTaken (w w' : WorkView) (h : Held) : Type 0 where
  pub push : Pushed
  pub taken : w'.taken ≡ w.taken ++ push ∷ []
  pub held : w'.held ≡ Full h.slot h.turn
  pub cell : CellOf push h.cell
  pub slot : push.slot ≡ h.slot
  pub turn : push.turn ≡ h.turn
  pub short : length push.packet.bytes ≤ w.room
  pub room : w.room ≤ h.cell.packet.bytes.room
  pub room_is : w'.room ≡ w.room
  pub ended : w'.ended ≡ w.ended
  pub passes : w'.passes ≡ w.passes
  pub loads : w'.loads ≡ w.loads
  pub empties : w'.empties ≡ w.empties
  pub unsets : w'.unsets ≡ w.unsets
  pub oldest : all_back w.passes ≡ true → IsOldest push w

-- this take swapped the head and found it empty, with no chain at hand (own choice)
pub record IsEmpty (w w' : WorkView) : Type 0 where
  pub view : w' ≡ record w { empties = w.empties + 1 }
  pub cursor : w.cursor ≡ 0
  pub walked : w.walked ≡ []

-- this take loaded an unset link, and kept the chain (own choice)
pub record IsHeldBack (w w' : WorkView) : Type 0 where
  pub unset : w'.unsets ≡ w.unsets + 1
  pub on : IsSameButChain w w'
  pub empties : w'.empties ≡ w.empties
  pub chain : KeepsChain w w'
  pub waits : 0 < w'.cursor

-- what a take answers: a packet, that nothing was pending, or that it has to be tried again (own choice)
abbrev pub IsAnswer : WorkView → WorkView → Took → Type 0
IsAnswer w w' (Packet held) = HasTaken w w' held
IsAnswer w w' Empty = IsEmpty w w'
IsAnswer w w' Again = IsHeldBack w w'

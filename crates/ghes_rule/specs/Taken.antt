-- What a packet that was taken has to do with the decoder's view.
use Rattle.std.specs.Prelude.{◌≡◌, ◌^◌, ◌<◌, ◌≤◌, true, length}
use Rattle.ghes_rule.specs.declared.views.Pushed.{Pushed}
use Rattle.ghes_rule.specs.declared.views.WorkView.{WorkView}
use Rattle.ghes_rule.specs.declared.steps.take.Held.{Held}
use Rattle.ghes_rule.specs.Kept.{CellOf}
use Rattle.ghes_rule.specs.Moves.{all_back, first_walked, with_taken, IsOldest}

-- the push of the oldest slot that was walked was taken, and is in hand (own choice)
pub record IsTaken (w w' : WorkView) (h : Held) : Type 0 where
  pub push : Pushed
  pub view : w' ≡ with_taken w push
  pub first : h.slot ≡ first_walked w.walked
  pub slot : push.slot ≡ h.slot
  pub turn : push.turn ≡ h.turn
  pub cell : CellOf push h.cell
  pub room : w.room ≤ h.cell.packet.bytes.room
  pub short : length push.packet.bytes ≤ w.room
  pub oldest : all_back w.passes ≡ true → IsOldest push w

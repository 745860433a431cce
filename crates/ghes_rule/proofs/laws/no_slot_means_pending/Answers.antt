use Rattle.std.proofs.Common.{arith, ◌≡◌, length, refl}
use Rattle.ghes_rule.specs.Kept.{sum_to}
use Rattle.ghes_rule.proofs.Puts.{sum_zero}
use Rattle.ghes_rule.proofs.NoSlot.{some_slot}
use Rattle.ghes_rule.proofs.laws.no_slot_means_pending.Goals as goal

pub returns : goal.returns
returns c k w w' s s' found made = let a = some_slot k w w' (λ _. 0) s s' found made in let z = sum_zero (length w.passes) (λ _. 0) (λ _ _. refl) in omega arith

-- A push that is half made, and one that is made.
use Rattle.std.specs.Prelude.{◌≡◌, ◌+◌, ◌≤◌, [], ◌∷◌, ◌++◌}
use Rattle.ghes_rule.specs.declared.views.Pushed.{Pushed}
use Rattle.ghes_rule.specs.declared.views.PassView.{PassView}
use Rattle.ghes_rule.specs.declared.views.Stage.TheVariants.{Idle, Swapped}
use Rattle.ghes_rule.specs.declared.steps.push.Hung.{Hung}

-- the pass has swapped this slot in, and an empty packet with room is at hand
pub record IsHalf (v : PassView) (hung : Hung) : Type 0 where
  pub stage : v.stage ≡ Swapped hung.slot hung.old
  pub empty : hung.spare.bytes.bytes ≡ []
  pub room : v.room ≤ hung.spare.bytes.room

-- the pass after a whole push: two steps on a word, no claim, and one more push (own choice)
abbrev pub after_push : PassView → Pushed → PassView
after_push v e = record v { steps = v.steps + 1 + 1; stage = Idle; mine = v.mine ++ e ∷ [] }

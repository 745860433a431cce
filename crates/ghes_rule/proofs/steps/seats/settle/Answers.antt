use Rattle.std.proofs.Common.{rules, arith, ◌≡◌, ◌≤◌, ◌<◌, ◌+◌, ◌*◌, ◌^◌, [], ◌∷◌, ◌++◌, ℕ, List, Option, Some, None, length, true, refl, sym, ap, ◌∙◌, subst}
use Rattle.atomic_table.specs.Seated.{TableId}
use Rattle.ghes_rule.specs.declared.views.PassView.{PassView}
use Rattle.ghes_rule.specs.declared.views.WorkView.{WorkView}
use Rattle.ghes_rule.specs.Seen.{PassSeen, WorkSeen, Carries}
use Rattle.ghes_rule.specs.Moves.{pass_of, work_of, carried_of}
use Rattle.ghes_rule.proofs.SettleKeeps.{tells_settled}
use Rattle.ghes_rule.proofs.steps.seats.settle.Goals as goal

pub load-requires : goal.load-requires
load-requires c = let wide = c.shared.invariant.words in (ap (λ (z : WorkSeen). z.table) c.work.view_is ∙ (c.requires.belongs ∙ sym c.shared.view_is), omega arith, tells_settled _ _ _ _ _ _ _ c.work.invariant.is)

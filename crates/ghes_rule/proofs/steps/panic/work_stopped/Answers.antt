use Rattle.std.proofs.Common.{rules, arith, ◌≡◌, ◌≤◌, ◌<◌, ◌+◌, ◌*◌, ◌^◌, [], ◌∷◌, ◌++◌, ℕ, List, Option, Some, None, length, true, refl, sym, ap, ◌∙◌, subst}
use Rattle.atomic_table.specs.Seated.{TableId}
use Rattle.ghes_rule.specs.declared.views.PassView.{PassView}
use Rattle.ghes_rule.specs.declared.views.WorkView.{WorkView}
use Rattle.ghes_rule.specs.Seen.{PassSeen, WorkSeen, Carries}
use Rattle.ghes_rule.specs.Moves.{pass_of, work_of, carried_of}
use Rattle.ghes_rule.proofs.LookKeeps.{overlooks}
use Rattle.ghes_rule.proofs.steps.panic.work_stopped.Goals as goal

pub load-word-requires : goal.load-word-requires
load-word-requires g c = let here = c.shared.view_is in let wide = c.shared.invariant.words in
    (ap (λ (z : WorkSeen). z.table) c.work.view_is ∙ (c.requires.belongs ∙ sym here), omega arith, overlooks _ _ _ _ _ _ (sym c.shared.invariant.homes) c.work.invariant.is)

use Rattle.std.proofs.Common.{rules, arith, ◌≡◌, ◌≤◌, ◌<◌, ◌+◌, ◌*◌, ◌^◌, [], ◌∷◌, ◌++◌, ℕ, List, Option, Some, None, length, true, refl, sym, ap, ◌∙◌, subst}
use Rattle.atomic_table.specs.Seated.{TableId}
use Rattle.ghes_rule.specs.declared.views.PassView.{PassView}
use Rattle.ghes_rule.specs.declared.views.WorkView.{WorkView}
use Rattle.ghes_rule.specs.Seen.{PassSeen, WorkSeen, Carries}
use Rattle.ghes_rule.specs.Moves.{pass_of, work_of, carried_of}
use Rattle.ghes_rule.proofs.Trails.{detaches_at}
use Rattle.ghes_rule.proofs.steps.take.detach.Goals as goal

pub swap-head-requires : goal.swap-head-requires
swap-head-requires g c = let seen = c.work.view_is in let here = c.shared.view_is in let wide = c.shared.invariant.words in (
  ap (λ (z : WorkSeen). z.table) seen ∙ (c.requires.belongs ∙ sym here),
  omega arith,
  detaches_at _ _ _ _ _ _ _ (sym c.shared.invariant.homes) c.work.invariant.is
      (ap (λ (z : WorkSeen). z.view.walked) seen ∙ c.requires.none.0) (ap (λ (z : WorkSeen). z.view.cursor) seen ∙ c.requires.none.1) (ap (λ (z : WorkSeen). z.view.held) seen ∙ c.requires.bare),
)

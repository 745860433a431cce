use Rattle.std.proofs.Common.{rules, arith, ◌≡◌, ◌≤◌, ◌<◌, ◌+◌, ◌*◌, ◌^◌, [], ◌∷◌, ◌++◌, ℕ, List, Option, Some, None, length, true, refl, sym, ap, ◌∙◌, subst}
use Rattle.atomic_table.specs.Seated.{TableId}
use Rattle.ghes_rule.specs.declared.views.PassView.{PassView}
use Rattle.ghes_rule.specs.declared.views.WorkView.{WorkView}
use Rattle.ghes_rule.specs.Seen.{PassSeen, WorkSeen, Carries}
use Rattle.ghes_rule.specs.Moves.{pass_of, work_of, carried_of}
use Rattle.ghes_rule.specs.Moves.{first_back, let_out}
use Rattle.ghes_rule.proofs.SplitKeeps.{splits}
use Rattle.ghes_rule.proofs.steps.seats.let_go.Goals as goal

pub split_seat-seat-requires : goal.split_seat-seat-requires
split_seat-seat-requires c = let wide = c.shared.invariant.words in (ap (λ (z : WorkSeen). z.table) c.work.view_is ∙ (c.requires.belongs ∙ sym c.shared.view_is), omega arith, splits _ _ _ _ _ c.work.invariant.is (subst (λ (z : WorkSeen). first_back z.view.passes < length z.view.passes) (sym c.work.view_is) c.requires.some))

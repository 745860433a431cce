use Rattle.std.proofs.Common.{rules, arith, ◌≡◌, ◌≤◌, ◌<◌, ◌+◌, ◌*◌, ◌^◌, [], ◌∷◌, ◌++◌, ℕ, List, Option, Some, None, length, true, refl, sym, ap, ◌∙◌, subst}
use Rattle.atomic_table.specs.Seated.{TableId}
use Rattle.ghes_rule.specs.declared.views.PassView.{PassView}
use Rattle.ghes_rule.specs.declared.views.WorkView.{WorkView}
use Rattle.ghes_rule.specs.Seen.{PassSeen, WorkSeen, Carries}
use Rattle.ghes_rule.specs.Moves.{pass_of, work_of, carried_of}
use Rattle.ghes_rule.proofs.JoinKeeps.{joins}
use Rattle.ghes_rule.proofs.steps.seats.take_in.Goals as goal

pub join_seat-requires : goal.join_seat-requires
join_seat-requires c = let here = c.shared.view_is in let idle = ap (λ (z : PassSeen). z.view.stage) c.pass.view_is ∙ c.requires.idle in let wide = c.shared.invariant.words in (
  ap (λ (z : WorkSeen). z.table) c.work.view_is ∙ (c.requires.work ∙ sym here),
  ap (λ (z : PassSeen). z.table) c.pass.view_is ∙ (c.requires.pass ∙ sym here),
  subst (λ z. Carries c.pass.inside.seat.table_id.slots (pass_of c.pass.inside.seat.me.0).room z c.pass.inside.seat.me.1) idle c.pass.invariant.carries,
  omega arith,
  joins _ _ _ _ _ _ _ _ c.work.invariant.is c.pass.invariant.is idle,
)

use Rattle.std.proofs.Common.{rules, arith, ◌≡◌, ◌≤◌, ◌<◌, ◌+◌, ◌*◌, ◌^◌, [], ◌∷◌, ◌++◌, ℕ, List, Option, Some, None, length, true, refl, sym, ap, ◌∙◌, subst}
use Rattle.atomic_table.specs.Seated.{TableId}
use Rattle.ghes_rule.specs.declared.views.PassView.{PassView}
use Rattle.ghes_rule.specs.declared.views.WorkView.{WorkView}
use Rattle.ghes_rule.specs.Seen.{PassSeen, WorkSeen, Carries}
use Rattle.ghes_rule.specs.Moves.{pass_of, work_of, carried_of}
use Rattle.ghes_rule.proofs.Trails.{walks_at}
use Rattle.ghes_rule.proofs.steps.take.walk.Goals as goal

pub load-link-requires : goal.load-link-requires
load-link-requires g c = let seen = c.work.view_is in let here = c.shared.view_is in let fits = c.shared.invariant in let trail = c.work.invariant.trail in
    let table = ap (λ (z : WorkSeen). z.table) seen ∙ (c.requires.belongs ∙ sym here) in
    let low = trail.low in let cur = trail.cursor in let pos = subst (λ (z : WorkSeen). 0 < z.view.cursor) (sym seen) c.requires.more in let wide = fits.words in let homes = fits.homes in let same = ap (λ (z : TableId). z.slots) table in
    (table, omega arith, walks_at _ _ _ _ _ _ _ (sym fits.homes) c.work.invariant.is _ pos (omega arith))

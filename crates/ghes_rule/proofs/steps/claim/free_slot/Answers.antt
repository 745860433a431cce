use Rattle.std.proofs.Common.{rules, arith, ◌≡◌, ◌≤◌, ◌<◌, ◌+◌, ◌*◌, ◌^◌, [], ◌∷◌, ◌++◌, ℕ, List, Option, Some, None, length, true, refl, sym, ap, ◌∙◌, subst}
use Rattle.atomic_table.specs.Seated.{TableId}
use Rattle.ghes_rule.specs.declared.views.PassView.{PassView}
use Rattle.ghes_rule.specs.declared.views.WorkView.{WorkView}
use Rattle.ghes_rule.specs.Seen.{PassSeen, WorkSeen, Carries}
use Rattle.ghes_rule.specs.Moves.{pass_of, work_of, carried_of}
use Rattle.ghes_rule.proofs.ReleaseKeeps.{frees}
use Rattle.ghes_rule.proofs.steps.claim.free_slot.Goals as goal

pub store-requires : goal.store-requires
store-requires g c = let seen = c.pass.view_is in let here = c.shared.view_is in let fits = c.shared.invariant in let holding = ap (λ (z : PassSeen). z.view.stage) seen ∙ c.requires.own in
    let table = ap (λ (z : PassSeen). z.table) seen ∙ (c.requires.belongs ∙ sym here) in
    let has = subst (λ z. Carries c.pass.inside.seat.table_id.slots (pass_of c.pass.inside.seat.me.0).room z c.pass.inside.seat.me.1) holding c.pass.invariant.carries in
    let low = has.0 in let same = ap (λ (z : TableId). z.slots) table in let wide = fits.words in let homes = fits.homes in
    (table, omega arith, frees _ _ _ _ _ _ _ _ c.pass.invariant.is has.2 holding)

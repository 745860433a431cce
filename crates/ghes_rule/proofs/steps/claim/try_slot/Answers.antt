use Rattle.std.proofs.Common.{rules, arith, ◌≡◌, ◌≤◌, ◌<◌, ◌+◌, ◌*◌, ◌^◌, [], ◌∷◌, ◌++◌, ℕ, List, Option, Some, None, length, true, refl, sym, ap, ◌∙◌, subst}
use Rattle.atomic_table.specs.Seated.{TableId}
use Rattle.ghes_rule.specs.declared.views.PassView.{PassView}
use Rattle.ghes_rule.specs.declared.views.WorkView.{WorkView}
use Rattle.ghes_rule.specs.Seen.{PassSeen, WorkSeen, Carries}
use Rattle.ghes_rule.specs.Moves.{pass_of, work_of, carried_of}
use Rattle.ghes_rule.proofs.ClaimKeeps.{tries}
use Rattle.ghes_rule.proofs.steps.claim.try_slot.Goals as goal

pub fetch_or-word-requires : goal.fetch_or-word-requires
fetch_or-word-requires g c = let seen = c.pass.view_is in let here = c.shared.view_is in let fits = c.shared.invariant in let idle = ap (λ (z : PassSeen). z.view.stage) seen ∙ c.requires.idle in
    let inside = subst (λ (z : TableId). c.args.slot < z.slots) (sym here) c.requires.slot in let wide = fits.words in let homes = fits.homes in
    (ap (λ (z : PassSeen). z.table) seen ∙ (c.requires.belongs ∙ sym here), omega arith, tries _ _ _ _ _ _ _ c.pass.invariant.is (subst (λ z. Carries c.pass.inside.seat.table_id.slots (pass_of c.pass.inside.seat.me.0).room z c.pass.inside.seat.me.1) idle c.pass.invariant.carries) idle (subst (λ (z : PassSeen). length z.view.claims < 2 ^ 32) (sym seen) c.requires.few) inside)

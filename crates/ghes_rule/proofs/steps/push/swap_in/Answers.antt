use Rattle.std.proofs.Common.{rules, arith, ◌≡◌, ◌≤◌, ◌<◌, ◌+◌, ◌*◌, ◌^◌, [], ◌∷◌, ◌++◌, ℕ, List, Option, Some, None, length, true, refl, sym, ap, ◌∙◌, subst}
use Rattle.atomic_table.specs.Seated.{TableId}
use Rattle.ghes_rule.specs.declared.views.PassView.{PassView}
use Rattle.ghes_rule.specs.declared.views.WorkView.{WorkView}
use Rattle.ghes_rule.specs.Seen.{PassSeen, WorkSeen, Carries}
use Rattle.ghes_rule.specs.Moves.{pass_of, work_of, carried_of}
use Rattle.atomic_table.specs.Table.{rest}
use Rattle.ghes_rule.specs.declared.views.Cell.{Cell}
use Rattle.ghes_rule.specs.declared.views.Stage.TheVariants.{Holding}
use Rattle.ghes_rule.specs.declared.views.View.TheVariants.{OfPass}
use Rattle.ghes_rule.proofs.HangKeeps.{hangs}
use Rattle.ghes_rule.proofs.steps.push.swap_in.Goals as goal

pub exchange-requires : goal.exchange-requires
exchange-requires g c = let seen = c.pass.view_is in let here = c.shared.view_is in let holding = ap (λ (z : PassSeen). z.view.stage) seen ∙ c.requires.own in
    let h = (subst (λ z. Carries c.pass.inside.seat.table_id.slots (pass_of c.pass.inside.seat.me.0).room z c.pass.inside.seat.me.1) holding c.pass.invariant.carries).2 in
    (ap (λ (z : PassSeen). z.table) seen ∙ (c.requires.belongs ∙ sym here), (Some h.0, h.1 ∙ ap (λ cs. (c.args.claim.slot, Some h.0) ∷ rest cs) (sym h.1)))

pub swap-old-requires : goal.swap-old-requires
swap-old-requires g c = let seen = c.pass.view_is in let here = c.shared.view_is in let fits = c.shared.invariant in let holding = ap (λ (z : PassSeen). z.view.stage) seen ∙ c.requires.own in
    let h = (subst (λ z. Carries c.pass.inside.seat.table_id.slots (pass_of c.pass.inside.seat.me.0).room z c.pass.inside.seat.me.1) holding c.pass.invariant.carries).2 in
    let e = c.exchange.ensures.3 in let x : Cell = record { packet = c.args.packet; pass = c.pass.inside.number; turn = c.args.claim.turn } in let v : PassView = pass_of c.pass.inside.seat.me.0 in
    let same : c.exchange.new.seat.me.0 ≡ c.pass.inside.seat.me.0 = ap (λ m. m.0) e in let vs : pass_of c.exchange.new.seat.me.0 ≡ v = ap pass_of same in let wide = fits.words in (
      c.exchange.ensures.0 ∙ (ap (λ (z : PassSeen). z.table) seen ∙ (c.requires.belongs ∙ sym here)),
      omega arith,
      hangs _ _ _ _ _ c.args.claim.slot c.args.claim.turn _ x (sym fits.homes) (same ∙ (c.pass.invariant.is ∙ ap (λ z. OfPass z) (sym vs))) (ap (λ (z : PassView). z.stage) vs ∙ holding)
          (ap (λ m. m.1) e ∙ ap (λ cs. (c.args.claim.slot, Some x) ∷ rest cs) h.1) (sym c.pass.invariant.numbered ∙ ap (λ (z : PassView). z.number) (sym vs)) refl
          (subst (λ (z : PassView). length x.packet.bytes.bytes ≤ z.room) (sym vs) (subst (λ (z : PassSeen). length x.packet.bytes.bytes ≤ z.view.room) (sym seen) c.requires.short))
          (subst (λ (z : PassView). z.room ≤ x.packet.bytes.room) (sym vs) (subst (λ (z : PassSeen). z.view.room ≤ x.packet.bytes.room) (sym seen) c.requires.room)),
    )

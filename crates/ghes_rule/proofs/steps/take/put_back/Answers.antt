use Rattle.std.proofs.Common.{rules, arith, ◌≡◌, ◌≤◌, ◌<◌, ◌+◌, ◌*◌, ◌^◌, [], ◌∷◌, ◌++◌, ℕ, List, Option, Some, None, length, true, refl, sym, ap, ◌∙◌, subst}
use Rattle.atomic_table.specs.Seated.{TableId}
use Rattle.ghes_rule.specs.declared.views.PassView.{PassView}
use Rattle.ghes_rule.specs.declared.views.WorkView.{WorkView}
use Rattle.ghes_rule.specs.Seen.{PassSeen, WorkSeen, Carries}
use Rattle.ghes_rule.specs.Moves.{pass_of, work_of, carried_of}
use Rattle.atomic_table.specs.Table.{rest}
use Rattle.ghes_rule.specs.Seen.{HandFits}
use Rattle.ghes_rule.proofs.Trails.{gives_at}
use Rattle.ghes_rule.proofs.steps.take.put_back.Goals as goal

pub store-requires : goal.store-requires
store-requires g c = let seen = c.work.view_is in let fits = c.shared.invariant in let full = ap (λ (z : WorkSeen). z.view.held) seen ∙ c.requires.own in
    let table = ap (λ (z : WorkSeen). z.table) seen ∙ (c.requires.belongs ∙ sym c.shared.view_is) in let same = ap (λ (z : TableId). z.slots) table in
    let hand = subst (HandFits c.work.inside.seat.table_id.slots) full c.work.invariant.hand in let low = hand.0 in let wide = fits.words in let homes = fits.homes in
    let bare : rest c.work.inside.seat.me.1 ≡ [] = ap rest (c.work.invariant.in_hand ∙ ap carried_of full) in
    let room : (work_of c.work.inside.seat.me.0).room ≤ c.emptied-cell.result.packet.bytes.room = (let a = subst (λ (z : WorkSeen). z.view.room ≤ c.args.held.cell.packet.bytes.room) (sym seen) c.requires.room in let b = c.emptied-cell.ensures.room in omega arith) in (
      c.exchange.ensures.0 ∙ table,
      omega arith,
      gives_at _ _ _ _ _ _ _ (work_of c.work.inside.seat.me.0) (ap (λ m. m.0) c.exchange.ensures.3 ∙ c.work.invariant.is)
          (c.emptied-cell.result, ap (λ m. m.1) c.exchange.ensures.3 ∙ ap (λ cs. (c.args.held.slot, Some c.emptied-cell.result) ∷ cs) bare, c.emptied-cell.ensures.empty, room) full,
    )

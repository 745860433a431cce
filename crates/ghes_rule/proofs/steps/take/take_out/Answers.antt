use Rattle.std.proofs.Common.{rules, arith, ◌≡◌, ◌≤◌, ◌<◌, ◌+◌, ◌*◌, ◌^◌, [], ◌∷◌, ◌++◌, ℕ, List, Option, Some, None, length, true, refl, sym, ap, ◌∙◌, subst}
use Rattle.atomic_table.specs.Seated.{TableId}
use Rattle.ghes_rule.specs.declared.views.PassView.{PassView}
use Rattle.ghes_rule.specs.declared.views.WorkView.{WorkView}
use Rattle.ghes_rule.specs.Seen.{PassSeen, WorkSeen, Carries}
use Rattle.ghes_rule.specs.Moves.{pass_of, work_of, carried_of}
use Rattle.ghes_rule.specs.Moves.{first_walked}
use Rattle.ghes_rule.proofs.Trails.{takes_at, pop_walked, pop_below}
use Rattle.atomic_table.specs.Table.{rest}
use Rattle.ghes_rule.proofs.steps.take.take_out.Goals as goal

pub overflow_add-shared-inside : goal.overflow_add-shared-inside
overflow_add-shared-inside g c = let is : c.work.inside.trail.slots.items ≡ c.pop.new.self.items ++ c.unwrap-slot.result ∷ [] = search rules in
    let table = ap (λ (z : WorkSeen). z.table) c.work.view_is ∙ (c.requires.belongs ∙ sym c.shared.view_is) in let same = ap (λ (z : TableId). z.slots) table in
    let low = pop_below c.work.inside.seat.table_id.slots c.work.inside.trail (work_of c.work.inside.seat.me.0) _ _ c.work.invariant.trail is in let few = c.shared.invariant.few in let homes = c.shared.invariant.homes in omega arith

pub store-requires : goal.store-requires
store-requires g c = let is : c.work.inside.trail.slots.items ≡ c.pop.new.self.items ++ c.unwrap-slot.result ∷ [] = search rules in let seen = c.work.view_is in
    let table = ap (λ (z : WorkSeen). z.table) seen ∙ (c.requires.belongs ∙ sym c.shared.view_is) in let same = ap (λ (z : TableId). z.slots) table in
    let low = pop_below c.work.inside.seat.table_id.slots c.work.inside.trail (work_of c.work.inside.seat.me.0) _ _ c.work.invariant.trail is in let wide = c.shared.invariant.words in let homes = c.shared.invariant.homes in
    let bare = ap (λ (z : WorkSeen). z.view.held) seen ∙ c.requires.bare in
    (table, omega arith, takes_at _ _ _ _ _ _ _ (sym homes) c.work.invariant.is _ _ (c.work.invariant.in_hand ∙ ap carried_of bare) (pop_walked _ _ _ _ _ c.work.invariant.trail is) (ap (λ (z : WorkSeen). z.view.cursor) seen ∙ c.requires.walked.1) bare)

pub exchange-requires : goal.exchange-requires
exchange-requires g c = let is : c.work.inside.trail.slots.items ≡ c.pop.new.self.items ++ c.unwrap-slot.result ∷ [] = search rules in let t = c.store.ensures.2 in
    let table = ap (λ (z : WorkSeen). z.table) c.work.view_is ∙ (c.requires.belongs ∙ sym c.shared.view_is) in
    let first : first_walked (work_of c.work.inside.seat.me.0).walked ≡ c.unwrap-slot.result = ap first_walked (pop_walked _ _ _ _ _ c.work.invariant.trail is) in
    let now : c.store.new.seat.me.1 ≡ (c.unwrap-slot.result, Some t.1) ∷ [] = ap (λ m. m.1) t.3 ∙ ap (λ i. (i, Some t.1) ∷ []) first in
    (c.store.ensures.0 ∙ table, (Some t.1, now ∙ ap (λ cs. (c.unwrap-slot.result, Some t.1) ∷ rest cs) (sym now)))

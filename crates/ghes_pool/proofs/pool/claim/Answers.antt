use Rattle.std.proofs.Common.{rules, arith, ◌≡◌, ◌<◌, ◌≤◌, ◌+◌, ℕ, List, [], ◌∷◌, ◌++◌, get_or, refl, sym, ap, ◌∙◌, subst}
use Rattle.ghes_rule.specs.declared.views.PassView.{PassView}
use Rattle.ghes_rule.specs.Kept.{turn}
use Rattle.ghes_rule.specs.Moves.{with_claim, with_found}
use Rattle.ghes_rule.specs.Finds.{AreFinds, after_finds}
use Rattle.ghes_pool.proofs.FindsLemmas.{finds_grow, finds_view, finds_none}
use Rattle.ghes_pool.proofs.pool.claim.Goals as goal

pub loop-slot-init : goal.loop-slot-init
loop-slot-init g c = (search rules, search rules, ([], (refl, λ i l. absurd (omega arith)), sym (finds_none c.args.pass.view)))

pub loop-slot-preserved : goal.loop-slot-preserved
loop-slot-preserved g c = let inv = c.loop-slot.invariant in let f = inv.2 in let i : ℕ = c.loop-slot.slot in let v : PassView = c.args.pass.view in let did = c.in_default.ensures.found in let n : ℕ = did.0 in (
  search rules,
  search rules,
  (f.0 ++ turn i n ∷ [], finds_grow v.since i f.0 n (subst (λ (z : PassView). get_or z.since i 0 ≤ n) f.2 did.1) f.1, did.2 ∙ (ap (λ z. with_found z i n) f.2 ∙ finds_view v i f.0 n)),
)

pub returns-in-Some-clause-found : goal.returns-in-Some-clause-found
returns-in-Some-clause-found g c = let f = c.loop-slot.invariant.2 in let v : PassView = c.args.pass.view in let did = c.in-Some.ensures.claimed in let i : ℕ = c.loop-slot.slot in let slot_is = did.0 in
    (f.0, subst (λ z. AreFinds v.since z f.0) (sym slot_is) f.1, search rules, did.1 ∙ ((λ j. with_claim (f.2 j) i c.in-Some.claim.turn) ∙ (λ j. with_claim (after_finds v (sym slot_is j) f.0) (sym slot_is j) c.in-Some.claim.turn)))

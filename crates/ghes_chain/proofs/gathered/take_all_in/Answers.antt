use Rattle.std.proofs.Common.{rules, arith, ◌≡◌, ℕ, [], length, refl, sym, ap, ◌∙◌, subst, append-nil}
use Rattle.ghes_rule.specs.declared.views.WorkView.{WorkView}
use Rattle.ghes_rule.specs.Moves.{joined, IsSameButPasses}
use Rattle.ghes_rule.specs.Seen.{WorkSeen}
use Rattle.ghes_chain.proofs.GatherLemmas.{AreIn, popped_ready, same_joined, in_joined, left_joined, all_in, same_self, none_in}
use Rattle.ghes_chain.proofs.gathered.take_all_in.Goals as goal

pub loop-pass-init : goal.loop-pass-init
loop-pass-init c = (refl, refl, same_self c.args.work.now.view, ([], sym (append-nil c.args.passes.now.items)), none_in c.args.passes.now.items c.args.work.now.view)

pub take_in-requires : goal.take_in-requires
take_in-requires c = let inv = c.loop-pass.invariant in let r = popped_ready _ c.args.work.now.view c.args.passes.now.items c.requires.all _ c.loop-pass.passes.items c.pop.new.self.items inv.3.0 c.in-Some.pass inv.3.1 c.in-Some.ensures.items inv.2 in
    record { work = inv.0 ∙ c.requires.belongs; pass = r.0; idle = r.1 }

pub loop-pass-preserved : goal.loop-pass-preserved
loop-pass-preserved c = let inv = c.loop-pass.invariant in let w₀ : WorkView = c.args.work.now.view in let did = c.take_in.ensures in
    let now : c.take_in.new.work.view ≡ joined c.loop-pass.work.view c.in-Some.pass.view = ap (λ (z : WorkSeen). z.view) did in (
      ap (λ (z : WorkSeen). z.table) did ∙ inv.0,
      search rules,
      subst (IsSameButPasses w₀) (sym now) (same_joined _ w₀ c.args.passes.now.items c.requires.all _ c.loop-pass.passes.items c.pop.new.self.items inv.3.0 c.in-Some.pass inv.3.1 c.in-Some.ensures.items inv.2),
      left_joined _ w₀ c.args.passes.now.items c.requires.all _ c.loop-pass.passes.items c.pop.new.self.items inv.3.0 c.in-Some.pass inv.3.1 c.in-Some.ensures.items inv.2,
      subst (AreIn (length c.pop.new.self.items) c.args.passes.now.items) (sym now) (in_joined _ w₀ c.args.passes.now.items c.requires.all _ c.loop-pass.passes.items c.pop.new.self.items inv.3.0 c.in-Some.pass inv.3.1 c.in-Some.ensures.items inv.2 inv.4),
    )

pub returns-clause-back : goal.returns-clause-back
returns-clause-back c = let inv = c.loop-pass.invariant in let none_left : length c.loop-pass.passes.items ≡ 0 = search rules in
    (all_in _ c.args.work.now.view c.args.passes.now.items c.requires.all c.loop-pass.work.view inv.2 (subst (λ m. AreIn m c.args.passes.now.items c.loop-pass.work.view) none_left inv.4)).0

pub returns-clause-has : goal.returns-clause-has
returns-clause-has c = let inv = c.loop-pass.invariant in let none_left : length c.loop-pass.passes.items ≡ 0 = search rules in
    (all_in _ c.args.work.now.view c.args.passes.now.items c.requires.all c.loop-pass.work.view inv.2 (subst (λ m. AreIn m c.args.passes.now.items c.loop-pass.work.view) none_left inv.4)).1

use Rattle.std.proofs.Common.{rules, arith, ◌≡◌, ◌≤◌, ◌<◌, ◌+◌, ◌*◌, ◌^◌, [], ◌∷◌, ◌++◌, ℕ, List, Option, Some, None, length, true, refl, sym, ap, ◌∙◌, subst}
use Rattle.atomic_table.specs.Seated.{TableId}
use Rattle.ghes_rule.specs.declared.views.PassView.{PassView}
use Rattle.ghes_rule.specs.declared.views.WorkView.{WorkView}
use Rattle.ghes_rule.specs.Seen.{PassSeen, WorkSeen, Carries}
use Rattle.ghes_rule.specs.Moves.{pass_of, work_of, carried_of}
use Rattle.ghes_rule.specs.declared.views.Stage.TheVariants.{Idle}
use Rattle.ghes_rule.specs.Moves.{first_back, without_first, let_out, outs, since_of}
use Rattle.ghes_rule.specs.Seen.{AreLetOut, pass_seen}
use Rattle.ghes_rule.proofs.Gathered.{passes_grow, out_next, out_now, out_some}
use Rattle.ghes_rule.proofs.steps.seats.let_all_go.Goals as goal

pub let_go-pass-requires : goal.let_go-pass-requires
let_go-pass-requires c = let w : WorkView = c.args.work.now.view in let i : ℕ = c.loop.counter in let now : c.loop.work.view ≡ record w { passes = outs i w.passes } = ap (λ (z : WorkSeen). z.view) c.loop.invariant.0 in
    let inside : i < length w.passes = search rules in let out = ap let_out now ∙ out_now w i c.requires.all.1 inside in let of = c.requires.each i (search rules) in
    record {
      belongs = ap (λ (z : WorkSeen). z.table) c.loop.invariant.0 ∙ c.requires.belongs;
      some = subst (λ (u : WorkView). first_back u.passes < length u.passes) (sym now) (out_some w i c.requires.all.1 inside);
      number = ap (λ (v : PassView). v.number) out ∙ (of.0 ∙ search rules);
      idle = ap (λ (v : PassView). v.stage) out ∙ of.1;
    }

pub loop-preserved : goal.loop-preserved
loop-preserved c = let w : WorkView = c.args.work.now.view in let i : ℕ = c.loop.counter in let now : c.loop.work.view ≡ record w { passes = outs i w.passes } = ap (λ (z : WorkSeen). z.view) c.loop.invariant.0 in
    let table = ap (λ (z : WorkSeen). z.table) c.loop.invariant.0 in
    let inside : i < length w.passes = search rules in let did = c.let_go-pass.ensures in (
      did.work ∙ (λ j. record { table = table j; view = without_first (now j) }) ∙ ap (λ u. let z : WorkSeen = record { table = c.args.work.now.table; view = u } in z) (out_next w i c.requires.all.1 inside),
      search rules,
      passes_grow _ w i _ _ c.let_go-pass.result (search rules) (did.pass ∙ (λ j. pass_seen (table j) (let_out (now j))) ∙ ap (pass_seen c.args.work.now.table) (out_now w i c.requires.all.1 inside)) c.loop.invariant.2,
    )

pub returns-clause-passes : goal.returns-clause-passes
returns-clause-passes c = let done : c.loop.counter ≡ c.args.contexts = search rules in subst (λ (n : ℕ). AreLetOut c.args.work.now.table c.args.work.now.view n c.loop.passes.items) (done ∙ c.requires.all.0) c.loop.invariant.2

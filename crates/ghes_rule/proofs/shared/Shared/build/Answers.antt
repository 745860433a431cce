use Rattle.std.proofs.Common.{rules, arith, ◌≡◌, ◌<◌, ℕ, ◌+◌, length, replicate, true, refl, sym, ap, ◌∙◌}
use mathlib.Core.Option.{some}
use Rattle.ghes_rule.specs.declared.views.PassView.{PassView}
use Rattle.ghes_rule.specs.declared.views.WorkView.{WorkView}
use Rattle.ghes_rule.specs.Kept.{first_pass, first_passes, first_work}
use Rattle.ghes_rule.specs.Moves.{all_back, view_at, view_or, since_of}
use Rattle.ghes_rule.specs.Seen.{pass_seen}
use Rattle.ghes_rule.proofs.Opens.{first_length, first_at}
use Rattle.ghes_rule.proofs.BackLemmas.{back_all}
use Rattle.ghes_rule.proofs.shared.Shared.build.Goals as goal

pub let_all_go-passes-requires-clause-all : goal.let_all_go-passes-requires-clause-all
let_all_go-passes-requires-clause-all c = let is : c.in_ok-shared.work.view ≡ first_work c.args.block_len c.args.slots c.args.contexts = search rules in (
  sym (first_length c.args.block_len c.args.slots 0 c.args.contexts) ∙ ap (λ (w : WorkView). length w.passes) (sym is),
  ap (λ (w : WorkView). all_back w.passes) is ∙ back_all (first_passes c.args.block_len c.args.slots 0 c.args.contexts) (λ p l. let n = first_length c.args.block_len c.args.slots 0 c.args.contexts in (_, first_at c.args.block_len c.args.slots 0 c.args.contexts p (omega arith))),
)

pub let_all_go-passes-requires-clause-each : goal.let_all_go-passes-requires-clause-each
let_all_go-passes-requires-clause-each c q l = let is : c.in_ok-shared.work.view ≡ first_work c.args.block_len c.args.slots c.args.contexts = search rules in
    let at = ap (λ (w : WorkView). view_at w.passes q) is ∙ ap view_or (first_at c.args.block_len c.args.slots 0 c.args.contexts q l) in
    (ap (λ (v : PassView). v.number) at ∙ (let g : 0 + q ≡ q = omega arith in g), ap (λ (v : PassView). v.stage) at)

pub returns-clause-passes : goal.returns-clause-passes
returns-clause-passes c = let is : c.in_ok-shared.work.view ≡ first_work c.args.block_len c.args.slots c.args.contexts = search rules in
    let table : c.in_ok-shared.work.table ≡ c.in_ok-shared.shared = search rules in let let_out = c.let_all_go-passes.ensures.passes in let out = let_out.1 in (
      let_out.0 ∙ (ap (λ (w : WorkView). length w.passes) is ∙ first_length c.args.block_len c.args.slots 0 c.args.contexts),
      λ q l. out q (let n = first_length c.args.block_len c.args.slots 0 c.args.contexts in let m = ap (λ (w : WorkView). length w.passes) is in omega arith)
          ∙ ap some ((λ j. pass_seen (table j) (since_of (is j) q))
          ∙ ap (λ (v : PassView). pass_seen c.in_ok-shared.shared (let z : PassView = record v { since = replicate {A = ℕ} c.args.slots 0 } in z)) (ap view_or (first_at c.args.block_len c.args.slots 0 c.args.contexts q l) ∙ ap (first_pass c.args.block_len c.args.slots) (let g : 0 + q ≡ q = omega arith in g))),
    )

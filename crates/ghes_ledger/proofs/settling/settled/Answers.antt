use Rattle.std.proofs.Common.{rules, ◌≡◌, ◌+◌, List, replicate, sym, ap, subst, ◌∙◌, IfOk, Option, None}
use Rattle.std.specs.Prelude.{count_by}
use Rattle.std.specs.List.{filter_map}
use Rattle.ghes_ledger.specs.declared.fate.Fate.{Fate}
use Rattle.ghes_ledger.specs.Settled.{is_acknowledged, filled, numbered_fates}
use Rattle.ghes_ledger.proofs.SettledLemmas.{acknowledged_is_count}
use Rattle.ghes_ledger.proofs.settling.settled.Goals as goal

pub returns : goal.returns
returns c =
    let s = c.args.source in
    let kept = c.args.ledger.now in
    let counted : c.deref_mut.result.now ≡ replicate (count_by (is_acknowledged s) kept.calls + 1) None = search rules in
    let is = counted ∙ ap (λ n. replicate (n + 1) None) (sym (acknowledged_is_count s kept.calls)) in
    subst (λ (table : List (Option Fate)). IfOk c.settled_in.result (λ fates. fates.items ≡ filter_map (λ fate. fate) (filled table (numbered_fates s kept)))) is c.settled_in.ensures

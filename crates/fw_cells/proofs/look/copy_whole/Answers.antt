use Rattle.std.proofs.Common.{◌∙◌, ◌+◌, ◌-◌, length, sym}
use Rattle.std.proofs.lemmas.Bool.{OnTrue_at, OnTrue_from, leb-true}
use Rattle.fw_cells.proofs.LookLemmas.{bytes_in_run}
use Rattle.fw_cells.proofs.look.copy_whole.Goals as goal

pub returns-in-Some-clause-copied : goal.returns-in-Some-clause-copied
returns-in-Some-clause-copied c =
    OnTrue_from c.copy.result _ (λ whole.
    let run = c.index-runs-at.result in
    let fits = leb-true (c.args.first - c.index-runs-at.result.first + length c.args.into.now) (length c.index-runs-at.result.bytes) (sym c.copy.ensures.value ∙ whole) in
    OnTrue_at whole c.copy.ensures.copied
    ∙ bytes_in_run c.args.runs.now c.in-Some.at c.index-runs-at.result c.args.space c.args.first (length c.args.into.now) c.requires c.in-Some.ensures.found c.index-runs-at.is fits)

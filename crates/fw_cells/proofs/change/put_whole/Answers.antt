use Rattle.std.proofs.Common.{sym, subst, ⊎_elim}
use Rattle.std.proofs.lemmas.Bool.{OnTrue_at, OnFalse_at, OnTrue_from, cases_Bool}
use Rattle.apei_base.specs.Firmware.{shown}
use Rattle.fw_cells.specs.Runs.{AreRuns, HasCellAt}
use Rattle.fw_cells.proofs.ChangeLemmas.{put_order, put_cells}
use Rattle.fw_cells.proofs.change.put_whole.Goals as goal

pub returns-in-Some-clause-order : goal.returns-in-Some-clause-order
returns-in-Some-clause-order c =
    let had = subst (λ runs. HasCellAt runs c.args.space c.args.first c.in-Some.at) c.as_slice.ensures.value c.in-Some.ensures.found in
    ⊎_elim
    (λ whole. put_order c.args.runs.now.items c.put_at.new.runs.items c.in-Some.at c.args.space c.args.first (shown 0 c.args.room c.args.block.now)
    c.requires had (OnTrue_at whole c.put_at.ensures.put))
    (λ else. subst AreRuns (sym (OnFalse_at else c.put_at.ensures.kept)) c.requires)
    (cases_Bool c.put_at.result)

pub returns-in-Some-clause-put : goal.returns-in-Some-clause-put
returns-in-Some-clause-put c =
    let had = subst (λ runs. HasCellAt runs c.args.space c.args.first c.in-Some.at) c.as_slice.ensures.value c.in-Some.ensures.found in
    OnTrue_from c.put_at.result _
    (λ whole. put_cells c.args.runs.now.items c.put_at.new.runs.items c.in-Some.at c.args.space c.args.first (shown 0 c.args.room c.args.block.now)
    c.requires had (OnTrue_at whole c.put_at.ensures.put))

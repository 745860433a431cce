use Rattle.std.proofs.Common.{◌+◌, ◌-◌, sym, ap, ◌∙◌}
use Rattle.std.specs.List.{range_with_len}
use Rattle.ghes_desk.specs.Desk.{entered_by}
use Rattle.ghes_desk.proofs.RangeLemmas.{range_step}
use Rattle.ghes_desk.proofs.desk.enter_by.Goals as goal

pub loop-source-preserved : goal.loop-source-preserved
loop-source-preserved c =
    let before = c.loop-source in
    let calls = c.args.calls.now in
    record {
      entered = ap (entered_by (range_with_len (before.source + 1) (c.args.sources - (before.source + 1))) calls) c.in_ok-enter_on.ensures.ok
          ∙ ap (λ sources. entered_by sources calls before.ledger) (sym (range_step before.source c.args.sources c.loop-source-test.true))
          ∙ before.invariant.entered;
      reports = c.in_ok-enter_on.ensures.reports ∙ before.invariant.reports;
    }

use Rattle.std.proofs.Common.{◌≡◌, ◌-◌}
use Rattle.std.specs.List.{range_with_len}
use Rattle.ghes_desk.specs.Desk.{entered_by}
use Rattle.ghes_desk.proofs.desk.enter_by.Given as goal

abbrev pub invariant-loop-source : goal.invariant-loop-source
invariant-loop-source l =
    record {
      entered : entered_by (range_with_len l.source (l.sources - l.source)) l.calls l.ledger ≡ entered_by (range_with_len 0 l.sources) l.calls l.initial.ledger;
      reports : l.ledger.reports ≡ l.initial.ledger.reports;
    }

abbrev pub decreases-loop-source : goal.decreases-loop-source
decreases-loop-source l = l.sources - l.source

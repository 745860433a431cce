use Rattle.std.proofs.Common.{◌≡◌, length}
use Rattle.ghes_desk.specs.Desk.{entered_on}
use Rattle.ghes_desk.proofs.desk.enter_on.Given as goal

abbrev pub invariant-loop-call : goal.invariant-loop-call
invariant-loop-call l =
    record {
      entered : entered_on l.source l.rest l.ledger ≡ entered_on l.source l.calls l.initial.ledger;
      reports : l.ledger.reports ≡ l.initial.ledger.reports;
    }

abbrev pub decreases-loop-call : goal.decreases-loop-call
decreases-loop-call l = length l.rest

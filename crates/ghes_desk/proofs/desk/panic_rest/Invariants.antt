use Rattle.std.proofs.Common.{◌≡◌, map, length}
use Rattle.ghes_call.specs.Packet.{seen_of}
use Rattle.ghes_desk.specs.Desk.{panicked}
use Rattle.ghes_desk.proofs.desk.panic_rest.Given as goal

abbrev pub invariant-loop-packet : goal.invariant-loop-packet
invariant-loop-packet l =
    record {
      entered : panicked (map seen_of l.rest) l.ledger ≡ panicked (map seen_of l.packets) l.initial.ledger;
      reports : l.ledger.reports ≡ l.initial.ledger.reports;
    }

abbrev pub decreases-loop-packet : goal.decreases-loop-packet
decreases-loop-packet l = length l.rest

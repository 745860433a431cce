use Rattle.std.proofs.Common.{◌≡◌, take}
use Rattle.std.specs.List.{flat_map}
use Rattle.ghes_ledger.specs.Settled.{numbered_call, filled}
use Rattle.ghes_ledger.proofs.settling.put_calls.Given as goal

abbrev pub invariant-loop-call : goal.invariant-loop-call
invariant-loop-call l = l.table ≡ filled l.fn.table (flat_map (numbered_call l.source) (take l.call-index l.calls))

use Rattle.std.proofs.Common.{◌≡◌, take}
use Rattle.std.specs.List.{flat_map}
use Rattle.ghes_ledger.specs.Settled.{numbered_panic, filled}
use Rattle.ghes_ledger.proofs.settling.put_panic.Given as goal

abbrev pub invariant-loop-entry : goal.invariant-loop-entry
invariant-loop-entry l = l.table ≡ filled l.fn.table (flat_map (numbered_panic l.source) (take l.entry-index l.panic))

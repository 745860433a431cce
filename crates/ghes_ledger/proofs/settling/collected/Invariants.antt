use Rattle.std.proofs.Common.{◌≡◌, take}
use Rattle.std.specs.List.{filter_map}
use Rattle.ghes_ledger.proofs.settling.collected.Given as goal

abbrev pub invariant-loop-fate : goal.invariant-loop-fate
invariant-loop-fate l = l.fates.items ≡ filter_map (λ fate. fate) (take l.fate-index l.table)

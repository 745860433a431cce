use Rattle.std.proofs.Common.{◌≡◌, ℕ}
use Rattle.std.specs.BTreeMap.{get}
use Rattle.std.specs.Ordering.{nat_cmp}
use Rattle.apei_mem_bus.proofs.CellLemmas.{with_front}
use Rattle.apei_mem_bus.proofs.mem_bus.put_bytes.Given as goal

abbrev pub invariant-loop-step : goal.invariant-loop-step
invariant-loop-step l = (address : ℕ) → get nat_cmp l.bank address ≡ with_front (get nat_cmp l.initial.bank) l.first l.step l.bytes address

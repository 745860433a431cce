use Rattle.std.proofs.Common.{◌≤◌, length}
use Rattle.ghes_rule.specs.Seen.{AreFirst}
use Rattle.nmi_bench.proofs.callers.Given as goal

abbrev pub invariant-loop : goal.invariant-loop
invariant-loop l = AreFirst l.shared 4096 16 (length l.passes.items) l.passes.items × (length l.passes.items ≤ 4)

use Rattle.std.proofs.Common.{◌≡◌, ◌++◌, take}
use Rattle.std.specs.List.{flat_map}
use Rattle.ghes_report.specs.Turns.{call_on}
use Rattle.ghes_report.proofs.turns.calls_on.Given as goal

abbrev pub invariant-loop-call : goal.invariant-loop-call
invariant-loop-call l =
    (l.text.added ≡ l.fn.text.added ++ flat_map (call_on l.ids l.reports l.source) (take l.call-index l.calls)) × (l.text.front ≡ l.fn.text.front)

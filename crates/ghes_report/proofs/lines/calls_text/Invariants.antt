use Rattle.std.proofs.Common.{◌≡◌, ◌++◌, take}
use Rattle.std.specs.List.{flat_map}
use Rattle.ghes_report.specs.Lines.{call_text}
use Rattle.ghes_report.proofs.lines.calls_text.Given as goal

abbrev pub invariant-loop-call : goal.invariant-loop-call
invariant-loop-call l =
    (l.text.added ≡ l.fn.text.added ++ flat_map (call_text l.ids l.reports) (take l.call-index l.calls)) × (l.text.front ≡ l.fn.text.front)

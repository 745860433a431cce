use Rattle.std.proofs.Common.{◌≡◌, ◌++◌, take}
use Rattle.std.specs.List.{flat_map}
use Rattle.ghes_report.specs.Lines.{taken_text}
use Rattle.ghes_report.proofs.lines.all_taken_text.Given as goal

abbrev pub invariant-loop-entry : goal.invariant-loop-entry
invariant-loop-entry l =
    (l.text.added ≡ l.fn.text.added ++ flat_map (taken_text l.ids l.reports) (take l.entry-index l.taken)) × (l.text.front ≡ l.fn.text.front)

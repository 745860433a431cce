use Rattle.std.proofs.Common.{◌≡◌, ◌++◌, take}
use Rattle.std.specs.List.{flat_map}
use Rattle.ghes_report.specs.Turns.{taken_on}
use Rattle.ghes_report.proofs.turns.all_taken_on.Given as goal

abbrev pub invariant-loop-entry : goal.invariant-loop-entry
invariant-loop-entry l =
    (l.text.added ≡ l.fn.text.added ++ flat_map (taken_on l.ids l.reports l.source) (take l.entry-index l.taken)) × (l.text.front ≡ l.fn.text.front)

use Rattle.std.proofs.Common.{◌≡◌, ◌++◌}
use Rattle.std.specs.List.{flat_map, range_with_len}
use Rattle.ghes_report.specs.Turns.{lines_on}
use Rattle.ghes_report.proofs.turns.all_lines_on.Given as goal

abbrev pub invariant-loop-source : goal.invariant-loop-source
invariant-loop-source l =
    (l.text.added ≡ l.fn.text.added ++ flat_map (lines_on l.ids l.reports l.calls l.taken) (range_with_len 0 l.source)) × (l.text.front ≡ l.fn.text.front)

use Rattle.std.proofs.Common.{◌≡◌, ◌++◌, take}
use Rattle.std.specs.List.{flat_map}
use Rattle.ghes_report.specs.Cell.{cell_line}
use Rattle.ghes_report.proofs.cell.cells_text.Given as goal

abbrev pub invariant-loop-cell : goal.invariant-loop-cell
invariant-loop-cell l =
    (l.text.added ≡ l.fn.text.added ++ flat_map (cell_line l.id l.width) (take l.cell-index l.cells)) × (l.text.front ≡ l.fn.text.front)

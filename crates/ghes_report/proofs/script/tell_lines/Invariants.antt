use Rattle.std.proofs.Common.{◌≡◌, ◌++◌, drop}
use Rattle.ghes_report.specs.Script.{told_from, told_text}
use Rattle.ghes_report.proofs.script.tell_lines.Given as goal

-- the lines so far and those of the marks that are left are all lines
abbrev pub invariant-loop-mark : goal.invariant-loop-mark
invariant-loop-mark l =
    (l.text.added ++ told_from l.ids l.widths l.ledger l.left (drop l.mark-index l.ledger.marks)
    ≡ l.fn.text.added ++ told_text l.lines l.ids l.widths l.ledger)
    × (l.text.front ≡ l.fn.text.front)

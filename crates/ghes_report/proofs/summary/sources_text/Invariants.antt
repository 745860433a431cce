use Rattle.std.proofs.Common.{◌≡◌, ◌-◌, ◌++◌, length, drop}
use Rattle.ghes_report.specs.Summary.{sources_from}
use Rattle.ghes_report.proofs.summary.sources_text.Given as goal

-- the lines so far and those of the sources that are left are all lines
abbrev pub invariant-loop-position : goal.invariant-loop-position
invariant-loop-position l =
    (l.text.added ++ sources_from l.position l.ids l.raised l.acknowledged (drop l.position l.sources)
    ≡ l.fn.text.added ++ sources_from 0 l.ids l.raised l.acknowledged l.sources)
    × (l.text.front ≡ l.fn.text.front)

abbrev pub decreases-loop-position : goal.decreases-loop-position
decreases-loop-position l = length l.sources - l.position

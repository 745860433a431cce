use Rattle.std.proofs.Common.{◌≡◌, ◌++◌, take}
use Rattle.std.specs.List.{flat_map}
use Rattle.ghes_report.specs.Panic.{entry_text}
use Rattle.ghes_report.proofs.panic.entries_text.Given as goal

abbrev pub invariant-loop-entry : goal.invariant-loop-entry
invariant-loop-entry l =
    (l.text.added ≡ l.fn.text.added ++ flat_map (entry_text l.ids) (take l.entry-index l.entries)) × (l.text.front ≡ l.fn.text.front)

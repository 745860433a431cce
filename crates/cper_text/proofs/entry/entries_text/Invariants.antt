use Rattle.std.proofs.Common.{◌≡◌, ◌<◌, ◌+◌, ◌^◌, ◌++◌, length}
use Rattle.cper_block.specs.Cut.{entries_of}
use Rattle.cper_text.specs.Entry.{entries_text}
use Rattle.cper_text.proofs.entry.entries_text.Given as goal

abbrev pub invariant-loop-entry : goal.invariant-loop-entry
invariant-loop-entry l =
    (l.number + length (entries_of l.entry-iterator) < 2 ^ 32)
    × (l.text.added ++ entries_text l.number (entries_of l.entry-iterator) ≡ l.fn.text.added ++ entries_text 0 (entries_of l.fn.entries))
    × (l.text.front ≡ l.fn.text.front)

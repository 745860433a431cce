use Rattle.std.proofs.Common.{◌≡◌, ◌<◌, ℕ, length, slice_index_or}
use Rattle.apei_hest.specs.declared.source.Ghes.{Ghes}
use Rattle.ghes_lines.specs.declared.machine.Source.{Source}
use Rattle.ghes_setup.specs.Machine.{IsSourceOf}
use Rattle.ghes_setup.proofs.describing.sources_of.Given as goal

-- so many sources are made
abbrev pub invariant-loop-at : goal.invariant-loop-at
invariant-loop-at l =
    (length l.sources.items ≡ l.at)
    × ((s : ℕ) (none : Source) → s < l.at → (ghes : Ghes) → IsSourceOf l.settings s (slice_index_or l.found s ghes) (slice_index_or l.sources.items s none))

use Rattle.std.proofs.Common.{◌≡◌, map, take}
use Rattle.fw_cells.specs.Spans.{run_of}
use Rattle.fw_cells.proofs.span.runs_of.Given as goal

abbrev pub invariant-loop-span : goal.invariant-loop-span
invariant-loop-span l = l.runs.items ≡ map run_of (take l.span-index l.spans)

use Rattle.std.proofs.Common.{take}
use Rattle.fw_cells.specs.Spans.{AreSpans, CoversRuns}
use Rattle.fw_cells.proofs.span.spans_of.Given as goal

abbrev pub invariant-loop-space : goal.invariant-loop-space
invariant-loop-space l = record {
  each : AreSpans l.spans.items;
  covers : CoversRuns l.spans.items (take l.space-index l.mapped);
}

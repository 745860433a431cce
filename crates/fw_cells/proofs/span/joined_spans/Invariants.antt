use Rattle.std.proofs.Common.{◌≡◌, ◌++◌, drop}
use Rattle.fw_cells.proofs.SpanLemmas.{joins}
use Rattle.fw_cells.proofs.span.joined_spans.Given as goal

abbrev pub invariant-loop-next : goal.invariant-loop-next
invariant-loop-next l = l.joined.items ++ joins l.held (drop l.next-index l.rest) ≡ joins l.initial.held l.rest

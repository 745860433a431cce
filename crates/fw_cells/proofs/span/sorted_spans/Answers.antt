use Rattle.std.proofs.Common.{rules}
use Rattle.std.proofs.lemmas.List.Sorted.{IsNonDecreasingBy-from_sort_by_key}
use Rattle.fw_cells.proofs.SpanLemmas.{covers_sorted}
use Rattle.fw_cells.specs.declared.span.Span.{Span}
use Rattle.fw_cells.proofs.span.sorted_spans.Goals as goal

pub returns-clause-covers : goal.returns-clause-covers
returns-clause-covers c =
    covers_sorted c.in_ok-spans.spans.items c.sort_by_key.new.self.items c.args.mapped.now c.in_ok-sort_by_key.ensures.permutation c.in_ok-spans.ensures.covers

pub returns-clause-sorted : goal.returns-clause-sorted
returns-clause-sorted c =
    IsNonDecreasingBy-from_sort_by_key (λ (span : Span). span.start) _ c.in_ok-sort_by_key.ensures.sorted (λ a r q k. search rules)

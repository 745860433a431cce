use Rattle.std.proofs.Common.{◌+◌, ◌++◌, ℕ, [], ◌∷◌, drop, get_or, sym, ap, subst, ◌∙◌, arith}
use Rattle.std.proofs.lemmas.List.{drop_more, drop_all}
use Rattle.fw_cells.specs.declared.span.Span.{Span}
use Rattle.fw_cells.specs.Spans.{AreSpans, AreSorted, covers}
use Rattle.fw_cells.proofs.SpanLemmas.{joins, joins_in, joins_out, joins_end, joins_laws, Joins}
use Rattle.fw_cells.proofs.span.joined_spans.Goals as goal
use Rattle.fw_cells.proofs.span.joined_spans.Goals.{then-next-held, else-next-held+in_ok-push}

pub loop-next-preserved : goal.loop-next-preserved
loop-next-preserved c =
    let no_span : Span = record { start = 0; end = 0 } in
    let rest = c.in-Some.rest.now in
    let done = c.loop-next.joined.items in
    let held = c.loop-next.held in
    let next = get_or c.in-Some.rest.now c.loop-next.next-index no_span in
    let more = drop (c.loop-next.next-index + 1) c.in-Some.rest.now in
    let cut = drop_more c.in-Some.rest.now c.loop-next.next-index no_span c.loop-next-test.true in
    let before = ap (λ spans. c.loop-next.joined.items ++ joins c.loop-next.held spans) (sym cut) ∙ c.loop-next.invariant in
    elim c.if-next-held.branch [
      | then-next-held w ↦
          let widened : ℕ → Span = λ end. record { start = c.loop-next.held.start; end = end } in
          ap (λ spans. spans.items ++ joins c.if-next-held.held more) w.joined-is
          ∙ ap (λ span. done ++ joins span more) (w.held-is ∙ ap widened w.max.ensures)
          ∙ joins_in done held next more (joins c.in-Some.first.now rest) w.if-next-held.true before
      | else-next-held+in_ok-push w ↦
          ap (λ spans. spans.items ++ joins c.if-next-held.held more) w.joined-is
          ∙ ap (λ spans. spans ++ joins c.if-next-held.held more) w.in_ok-push.ensures.items
          ∙ ap (λ span. (done ++ held ∷ []) ++ joins span more) w.held-is
          ∙ joins_out done held next more (joins c.in-Some.first.now rest) w.if-next-held.false before
    ]

-- the laws of what is answered
laws : (c : goal.In_ok-push-2) → Joins (c.in-Some.first.now ∷ c.in-Some.rest.now) c.push-2.new.self.items
laws c =
    joins_laws c.in-Some.first.now c.in-Some.rest.now c.push-2.new.self.items
    (subst AreSpans c.in-Some.ensures.cases.0 c.requires.each) (subst AreSorted c.in-Some.ensures.cases.0 c.requires.sorted)
    (c.in_ok-push-2.ensures.items
    ∙ ap (λ spans. c.loop-next.joined.items ++ spans) (sym (joins_end c.loop-next.held))
    ∙ ap (λ spans. c.loop-next.joined.items ++ joins c.loop-next.held spans) (sym (drop_all c.loop-next.next-index c.in-Some.rest.now (omega arith)))
    ∙ c.loop-next.invariant)

pub returns-clause-each : goal.returns-clause-each
returns-clause-each c = (laws c).each

pub returns-clause-covers : goal.returns-clause-covers
returns-clause-covers c = λ place. (laws c).has place ∙ ap (λ spans. covers spans place) (sym c.in-Some.ensures.cases.0)

pub returns-clause-apart : goal.returns-clause-apart
returns-clause-apart c = (laws c).apart

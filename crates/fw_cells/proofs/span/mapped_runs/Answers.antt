use Rattle.std.proofs.Common.{map, sym, subst, ◌∙◌, ap}
use Rattle.std.proofs.lemmas.Result.{IfOk-weaker}
use Rattle.fw_cells.specs.Runs.{cells_of, AreRuns, place_of}
use Rattle.fw_cells.specs.Mapping.{IsMapped}
use Rattle.fw_cells.specs.Spans.{run_of, covers}
use Rattle.fw_cells.proofs.SpanLemmas.{runs_in_order, runs_mapped}
use Rattle.fw_cells.proofs.span.mapped_runs.Goals as goal

pub returns-clause-order : goal.returns-clause-order
returns-clause-order c =
    IfOk-weaker c.runs_of.result _ _
    (λ runs is. subst AreRuns (sym (is ∙ ap (map run_of) c.as_slice-2.ensures.value)) (runs_in_order c.in_ok-joined.joined.items c.in_ok-joined.ensures.each c.in_ok-joined.ensures.apart))
    c.runs_of.ensures

pub returns-clause-mapped : goal.returns-clause-mapped
returns-clause-mapped c =
    IfOk-weaker c.runs_of.result _ _
    (λ runs is. subst (λ items. IsMapped (cells_of items) c.args.mapped.now) (sym (is ∙ ap (map run_of) c.as_slice-2.ensures.value))
    (runs_mapped c.in_ok-joined.joined.items c.args.mapped.now c.in_ok-joined.ensures.each c.in_ok-joined.ensures.apart
    (λ space address small.
    c.in_ok-joined.ensures.covers (place_of space address)
    ∙ ap (λ spans. covers spans (place_of space address)) c.as_slice.ensures.value
    ∙ c.in_ok-spans.ensures.covers space address small)))
    c.runs_of.ensures

use Rattle.std.proofs.Common.{List, [], All, sym, subst}
use Rattle.ghes_throttle.specs.declared.report.Report.{Report}
use Rattle.throttle_run.specs.Looks.{Laned, IsFresh}
use Rattle.throttle_run.proofs.tests.two_readers_look_in_threads_while_the_caller_reports.Goals as goal

pub run-requires-clause-lanes : goal.run-requires-clause-lanes
run-requires-clause-lanes g c κs =
    let made = c.in_ok-writer in
    let book = made.writer.book in
    subst (λ (all : List Laned). All (IsFresh book made.writer.list) all) (sym c.as_mut_slice.ensures.value)
    (subst (λ (list : List Report). All (IsFresh book list) c.in-Ok.all.items) (sym made.ensures.list.0) (c.in-Ok.ensures book [] made.ensures.seen))

use Rattle.std.proofs.Common.{◌≡◌, ◌∙◌, List, All, Some, ap, sym, subst}
use Rattle.std.proofs.lemmas.List.Elements.{All-pop, All-push}
use Rattle.ghes_throttle.specs.declared.report.Report.{Report}
use Rattle.ghes_throttle.specs.Shown.{Book, Known, Knows}
use Rattle.throttle_run.specs.Looks.{Laned, IsFresh}
use Rattle.throttle_run.proofs.lane.lanes.Goals as goal

pub loop-reader-preserved : goal.loop-reader-preserved
loop-reader-preserved c =
    record {
      fresh = λ book list all.
          let kept = c.loop-reader.invariant.fresh book list all in
          let left = All-pop (Knows book list) c.loop-reader.left.items c.pop.new.self.items (Some c.in-Some.reader) c.in-Some.ensures.items kept.0 in
          let lane : IsFresh book list c.new.result = (ap (λ (l : Laned). l.book) c.new.ensures ∙ left.1.0, ap (λ (l : Laned). l.list) c.new.ensures ∙ left.1.1, ap (λ (l : Laned). l.answers) c.new.ensures) in
          (left.0, subst (λ (lanes : List Laned). All (IsFresh book list) lanes) (sym c.in_ok-push.ensures.items) (All-push (IsFresh book list) c.loop-reader.all.items c.new.result kept.1 lane));
    }

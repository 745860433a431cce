use Rattle.std.proofs.Common.{◌≡◌, ◌∙◌, ap, subst, List}
use mathlib.Core.List.{IsPrefix}
use Rattle.ghes_throttle.specs.declared.report.Report.{Report}
use Rattle.ghes_throttle.specs.Reports.{hit}
use Rattle.throttle_run.proofs.Answering.{between}
use Rattle.throttle_run.proofs.alone.look_alone.Goals as goal

-- what was seen lies between what was told before and after
pub returns-clause-hit : goal.returns-clause-hit
returns-clause-hit g c =
    let all = c.args.writer.now.list in
    let goes = subst (λ (l : List Report). IsPrefix c.look-answer.new.self.list l) (c.learn.ensures.told ∙ c.tell.ensures.list) c.learn.ensures.seen in
    c.look-answer.ensures.hit ∙ ap (λ l. hit l c.args.bytes.now c.args.now) (between c.args.reader.now.list c.look-answer.new.self.list all c.look-answer.ensures.list goes c.requires.told)

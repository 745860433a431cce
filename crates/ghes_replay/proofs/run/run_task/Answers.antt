-- How a task ends that was done, and one that was refused.
use Rattle.ghes_replay.specs.Seen.{outside}
use Rattle.ghes_replay.specs.Task.{task_seen}
use Rattle.ghes_replay.specs.Views.{output_of}
use Rattle.ghes_replay.proofs.WithLemmas.{refused_with, task_with}
use Rattle.ghes_replay.proofs.run.run_task.Goals as goal

pub returns-in-Ok-clause-ends : goal.returns-in-Ok-clause-ends
returns-in-Ok-clause-ends g c =
    task_with g.H.Handler.stands g.H.Handler.answers g.H.Handler.closing_text (task_seen c.args.task)
    (outside (g.F.Files.seen c.args.files.now) (g.K.Sink.seen c.args.out.now))
    (outside (g.F.Files.seen c.answer.new.files) (g.K.Sink.seen c.put_heard.new.out)) (output_of c.in-Ok.done.ledger c.in-Ok.done.text)
    c.args.handlers.items c.put_heard.result c.in-Ok.ensures.found c.in-Ok.ensures.unfailed c.put_heard.ensures

pub returns-in-Err-clause-ends : goal.returns-in-Err-clause-ends
returns-in-Err-clause-ends g c =
    refused_with g.H.Handler.stands g.H.Handler.answers g.H.Handler.closing_text (task_seen c.args.task)
    (outside (g.F.Files.seen c.args.files.now) (g.K.Sink.seen c.args.out.now))
    (outside (g.F.Files.seen c.answer.new.files) (g.K.Sink.seen c.refuse.new.out)) c.in-Err.refusal c.refused_name.result.now c.refuse.result
    c.args.handlers.items c.with.result c.refused_name.ensures c.in-Err.ensures.refused c.in-Err.ensures.counted c.refuse.ensures
    c.with.ensures.end c.with.ensures.handlers

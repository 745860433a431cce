-- What was heard was put, and the handlers go back.
use Rattle.ghes_replay.specs.Views.{done_of, output_of}
use Rattle.ghes_replay.proofs.WithLemmas.{heard_with}
use Rattle.ghes_replay.proofs.run.put_heard.Goals as goal

pub returns : goal.returns
returns g c =
    heard_with g.H.Handler.stands g.H.Handler.answers g.H.Handler.closing_text (g.K.Sink.seen c.args.out.now) (g.K.Sink.seen c.put_answer.new.out)
    (output_of c.args.done.ledger c.args.done.text) c.args.handlers.items c.hear-heard.result.handlers.items
    (done_of c.hear-heard.result.answer) c.put_answer.result c.with.result c.hear-heard.ensures c.put_answer.ensures c.with.ensures.end
    c.with.ensures.handlers

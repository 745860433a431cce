-- What follows from how a run ends.
use Rattle.ghes_replay.specs.Seen.{outside}
use Rattle.ghes_replay.specs.Run.{end_of}
use Rattle.ghes_replay.proofs.EndLemmas.{bad_script, bad_table, bad_words, failed_load, is_complete, bad_machine, put_failed, statuses}
use Rattle.ghes_replay.proofs.WithLemmas.{back_with, done_with, told_with, untold_with}
use Rattle.ghes_replay.proofs.run.ghes_run.Goals as goal

pub returns-clause-done : goal.returns-clause-done
returns-clause-done g c =
    done_with g.H.Handler.stands g.H.Handler.answers g.H.Handler.closing_text _
    (outside (g.F.Files.seen c.args.files.now) (g.K.Sink.seen c.args.out.now))
    (outside (g.F.Files.seen c.run.new.files) (g.K.Sink.seen c.run.new.out)) c.args.handlers.items c.run.result c.run.ensures.ends

pub returns-clause-told : goal.returns-clause-told
returns-clause-told g c =
    told_with g.H.Handler.stands g.H.Handler.answers g.H.Handler.closing_text _
    (outside (g.F.Files.seen c.args.files.now) (g.K.Sink.seen c.args.out.now))
    (outside (g.F.Files.seen c.run.new.files) (g.K.Sink.seen c.run.new.out)) c.args.handlers.items c.run.result c.run.ensures.ends

pub returns-clause-back : goal.returns-clause-back
returns-clause-back g c =
    back_with g.H.Handler.stands g.H.Handler.answers g.H.Handler.closing_text _
    (outside (g.F.Files.seen c.args.files.now) (g.K.Sink.seen c.args.out.now))
    (outside (g.F.Files.seen c.run.new.files) (g.K.Sink.seen c.run.new.out)) c.args.handlers.items c.run.result c.run.ensures.ends

pub returns-clause-untold : goal.returns-clause-untold
returns-clause-untold g c =
    untold_with g.H.Handler.stands g.H.Handler.answers g.H.Handler.closing_text _
    (outside (g.F.Files.seen c.args.files.now) (g.K.Sink.seen c.args.out.now))
    (outside (g.F.Files.seen c.run.new.files) (g.K.Sink.seen c.run.new.out)) c.args.handlers.items c.run.result c.run.ensures.ends

pub returns-clause-statuses : goal.returns-clause-statuses
returns-clause-statuses g c =
    statuses _ (outside (g.F.Files.seen c.args.files.now) (g.K.Sink.seen c.args.out.now))
    (outside (g.F.Files.seen c.run.new.files) (g.K.Sink.seen c.run.new.out)) c.run.ensures.ends.0 (end_of c.run.result) c.run.ensures.ends.1

pub returns-clause-put_failed : goal.returns-clause-put_failed
returns-clause-put_failed g c =
    put_failed _ (outside (g.F.Files.seen c.args.files.now) (g.K.Sink.seen c.args.out.now))
    (outside (g.F.Files.seen c.run.new.files) (g.K.Sink.seen c.run.new.out)) c.run.ensures.ends.0 (end_of c.run.result) c.run.ensures.ends.1

pub returns-clause-failed : goal.returns-clause-failed
returns-clause-failed g c =
    failed_load _ (outside (g.F.Files.seen c.args.files.now) (g.K.Sink.seen c.args.out.now))
    (outside (g.F.Files.seen c.run.new.files) (g.K.Sink.seen c.run.new.out)) c.run.ensures.ends.0 (end_of c.run.result) c.run.ensures.ends.1

pub returns-clause-bad_words : goal.returns-clause-bad_words
returns-clause-bad_words g c =
    bad_words _ (outside (g.F.Files.seen c.args.files.now) (g.K.Sink.seen c.args.out.now))
    (outside (g.F.Files.seen c.run.new.files) (g.K.Sink.seen c.run.new.out)) c.run.ensures.ends.0 (end_of c.run.result) c.run.ensures.ends.1

pub returns-clause-bad_table : goal.returns-clause-bad_table
returns-clause-bad_table g c =
    bad_table _ (outside (g.F.Files.seen c.args.files.now) (g.K.Sink.seen c.args.out.now))
    (outside (g.F.Files.seen c.run.new.files) (g.K.Sink.seen c.run.new.out)) c.run.ensures.ends.0 (end_of c.run.result) c.run.ensures.ends.1

pub returns-clause-bad_machine : goal.returns-clause-bad_machine
returns-clause-bad_machine g c =
    bad_machine _ (outside (g.F.Files.seen c.args.files.now) (g.K.Sink.seen c.args.out.now))
    (outside (g.F.Files.seen c.run.new.files) (g.K.Sink.seen c.run.new.out)) c.run.ensures.ends.0 (end_of c.run.result) c.run.ensures.ends.1

pub returns-clause-bad_script : goal.returns-clause-bad_script
returns-clause-bad_script g c =
    bad_script _ (outside (g.F.Files.seen c.args.files.now) (g.K.Sink.seen c.args.out.now))
    (outside (g.F.Files.seen c.run.new.files) (g.K.Sink.seen c.run.new.out)) c.run.ensures.ends.0 (end_of c.run.result) c.run.ensures.ends.1

pub returns-clause-complete : goal.returns-clause-complete
returns-clause-complete g c =
    is_complete _ (outside (g.F.Files.seen c.args.files.now) (g.K.Sink.seen c.args.out.now))
    (outside (g.F.Files.seen c.run.new.files) (g.K.Sink.seen c.run.new.out)) c.run.ensures.ends.0 (end_of c.run.result) c.run.ensures.ends.1

-- The program exits with the status of its run.
use Rattle.ghes_replay.specs.Seen.{outside}
use Rattle.ghes_replay.proofs.ProgramLemmas.{exits_by, exits_unread}
use Rattle.ghes_replay.proofs.program.ghes_main.Goals as goal

pub returns-clause-words : goal.returns-clause-words
returns-clause-words g c =
    let before = outside (g.F.Files.seen c.args.files.now) (g.K.Sink.seen c.args.out.now) in
    let after = outside (g.F.Files.seen c.run_arguments.new.files) (g.K.Sink.seen c.run_arguments.new.out) in
    exits_by g.H.Handler.stands g.H.Handler.answers g.H.Handler.closing_text c.args.args c.arguments-all.result before after c.args.handler
    c.run_arguments.result _ c.arguments-all.ensures c.run_arguments.ensures.ok c.run_arguments.ensures.err c.from.ensures

pub returns-clause-unread : goal.returns-clause-unread
returns-clause-unread g c =
    let before = outside (g.F.Files.seen c.args.files.now) (g.K.Sink.seen c.args.out.now) in
    let after = outside (g.F.Files.seen c.run_arguments.new.files) (g.K.Sink.seen c.run_arguments.new.out) in
    exits_unread c.args.args c.arguments-all.result before after c.run_arguments.result _ c.arguments-all.ensures c.run_arguments.ensures.err
    c.from.ensures

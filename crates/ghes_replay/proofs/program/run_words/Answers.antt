-- The run is one with this handler alone.
use Rattle.std.proofs.Common.{Global, map, refl}
use Rattle.std.specs.String.{string_bytes}
use Rattle.ghes_replay.specs.Seen.{outside}
use Rattle.ghes_replay.proofs.ProgramLemmas.{exits_alone}
use Rattle.ghes_replay.proofs.program.run_words.Goals as goal

pub returns-in-Ok : goal.returns-in-Ok
returns-in-Ok g c =
    exits_alone g.H.Handler.stands g.H.Handler.answers g.H.Handler.closing_text (map (string_bytes {Z = Global}) c.args.words.now)
    (outside (g.F.Files.seen c.args.files.now) (g.K.Sink.seen c.args.out.now))
    (outside (g.F.Files.seen c.ghes_run.new.files) (g.K.Sink.seen c.ghes_run.new.out)) c.args.handler c.in-Ok.handlers.items c.ghes_run.result
    c.ghes_run.result.status c.in-Ok.ensures.ok c.ghes_run.ensures.ends refl

-- The words behind the name are those of the arguments.
use Rattle.std.proofs.Common.{List, String, Global, map, drop, ap, subst, ◌∙◌}
use Rattle.std.specs.String.{string_bytes}
use Rattle.ghes_replay.specs.Program.{ExitsBy}
use Rattle.ghes_replay.specs.Seen.{outside}
use Rattle.ghes_replay.proofs.program.run_arguments.Goals as goal

pub returns-in-Ok-clause-ok : goal.returns-in-Ok-clause-ok
returns-in-Ok-clause-ok g c =
    let before = outside (g.F.Files.seen c.args.files.now) (g.K.Sink.seen c.args.out.now) in
    let after = outside (g.F.Files.seen c.run_words.new.files) (g.K.Sink.seen c.run_words.new.out) in
    let P : List (String Global) → Type 0 = λ words. ExitsBy g.H.Handler.stands g.H.Handler.answers g.H.Handler.closing_text
    (map (string_bytes {Z = Global}) words) before after c.args.handler c.run_words.result in
    rw c.in-Ok.is (subst P (c.behind_name.ensures ∙ ap (drop 1) c.deref.ensures.value) c.run_words.ensures)

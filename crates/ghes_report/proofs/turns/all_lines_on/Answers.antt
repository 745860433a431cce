-- The lines of one source more.
use Rattle.std.proofs.Common.{rules, sym, append_assoc}
use Rattle.ghes_report.specs.Turns.{lines_on}
use Rattle.ghes_report.proofs.TurnLemmas.{sources_more}
use Rattle.ghes_report.proofs.turns.all_lines_on.Goals as goal

pub loop-source-preserved : goal.loop-source-preserved
loop-source-preserved c =
    search (rules, append_assoc, sym (sources_more (lines_on c.args.ids.now c.args.reports.now c.args.calls.now c.args.taken.now) c.loop-source.source))

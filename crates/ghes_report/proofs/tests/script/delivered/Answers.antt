-- A judged block may be printed.
use Rattle.std.proofs.Common.{None, sym}
use Rattle.cper_block.proofs.ReasonLemmas.{judgement_is_reason}
use Rattle.ghes_report.proofs.tests.script.delivered.Goals as goal

pub returns : goal.returns
returns c = λ none. rw c.in_ok-copy.ensures (sym (judgement_is_reason c.args.block.now 65536 None c.requires))

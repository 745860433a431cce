use Rattle.ghes_report.proofs.SummaryLemmas.{summary_text-ledger}
use Rattle.ghes_report.proofs.laws.a_summary_tells_its_ledger.Goals as goal

pub returns : goal.returns
returns c = summary_text-ledger

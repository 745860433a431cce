-- The text of a summary by what it is a summary of.
use Rattle.std.proofs.Common.{◌≡◌, ℕ, List, length}
use Rattle.ghes_ledger.specs.declared.summary.Summary.{Summary}
use Rattle.ghes_ledger.specs.Counts.{IsSummaryOf}
use Rattle.ghes_ledger.specs.Kept.{Kept}
use Rattle.ghes_report.specs.Summary.{summary_text, ledger_summary}

pub summary_text-ledger : (ids raised acknowledged : List ℕ) (kept : Kept) (summary : Summary) → IsSummaryOf (length ids) kept summary → summary_text ids raised acknowledged summary ≡ ledger_summary ids raised acknowledged kept
summary_text-ledger ids raised acknowledged kept summary is = search (is.each_source, is.reports, is.repeats, is.no_slot, is.faults)

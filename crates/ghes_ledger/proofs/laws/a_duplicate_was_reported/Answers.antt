use Rattle.ghes_ledger.proofs.DuplicateLemmas.{duplicates_were_reported}
use Rattle.ghes_ledger.proofs.laws.a_duplicate_was_reported.Goals as goal

pub returns : goal.returns
returns c = duplicates_were_reported

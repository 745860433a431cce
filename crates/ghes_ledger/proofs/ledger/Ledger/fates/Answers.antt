use Rattle.std.proofs.Common.{rules}
use Rattle.ghes_ledger.proofs.SettledLemmas.{settled_are_fates}
use Rattle.ghes_ledger.proofs.ledger.Ledger.fates.Goals as goal

pub returns : goal.returns
returns c = search (rules, settled_are_fates)

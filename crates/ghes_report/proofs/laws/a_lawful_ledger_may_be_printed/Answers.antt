use Rattle.ghes_report.proofs.LawfulLemmas.{lawful_sound}
use Rattle.ghes_report.proofs.laws.a_lawful_ledger_may_be_printed.Goals as goal

pub returns : goal.returns
returns c = lawful_sound

use Rattle.ghes_lines.proofs.tests.told_of.Given as goal

abbrev pub ghosts-ledger_of : goal.ghosts-ledger_of
ghosts-ledger_of a = record { name = a.blank.name; parts = a.blank.parts }

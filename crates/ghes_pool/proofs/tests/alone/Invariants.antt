use Rattle.ghes_pool.proofs.tests.alone.Given as goal

abbrev pub ghosts-holds_alone : goal.ghosts-holds_alone
ghosts-holds_alone g a = record { name = a.blank.name; parts = a.blank.parts }

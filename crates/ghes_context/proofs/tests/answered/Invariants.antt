use Rattle.ghes_context.proofs.tests.answered.Given as goal

abbrev pub ghosts-calls_of : goal.ghosts-calls_of
ghosts-calls_of g a = record { name = a.blank.name; parts = a.blank.parts }

use Rattle.nmi_run.proofs.tests.answered.Given as goal

abbrev pub ghosts-calls : goal.ghosts-calls
ghosts-calls g a = record { name = a.blank.name; parts = a.blank.parts }

use Rattle.nmi_run.proofs.tests.answered_beside.Given as goal

abbrev pub ghosts-beside_a_claim : goal.ghosts-beside_a_claim
ghosts-beside_a_claim g a = record { name = a.blank.name; parts = a.blank.parts }

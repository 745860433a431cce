use Rattle.ghes_nmi.proofs.tests.each_access_that_fails_ends_the_call_or_the_acknowledgement_alone.Given as goal

abbrev pub ghosts-one_call : goal.ghosts-one_call
ghosts-one_call g a = record { name = a.blank.name; parts = a.blank.parts }

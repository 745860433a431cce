use Rattle.ghes_steps.proofs.tests.a_caller_makes_steps_of_a_blank.Given as goal

abbrev pub ghosts-counted : goal.ghosts-counted
ghosts-counted a = record { name = a.blank.name; parts = a.blank.parts }

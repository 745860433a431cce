use Rattle.ghes_pool.proofs.tests.the_third_pass_gets_the_slot_that_was_given_up.Given as goal

abbrev pub ghosts-three_at_two : goal.ghosts-three_at_two
ghosts-three_at_two g a = record { name = a.blank.name; parts = a.blank.parts }

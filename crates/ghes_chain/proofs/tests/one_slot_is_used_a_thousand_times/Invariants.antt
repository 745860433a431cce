use Rattle.ghes_chain.proofs.tests.one_slot_is_used_a_thousand_times.Given as goal

abbrev pub ghosts-one_slot_again_and_again : goal.ghosts-one_slot_again_and_again
ghosts-one_slot_again_and_again g a = record { name = a.blank.name; parts = a.blank.parts }

use Rattle.ghes_chain.proofs.tests.a_chain_that_was_held_comes_out_when_all_passes_are_back.Given as goal

abbrev pub ghosts-a_held_chain_is_gathered : goal.ghosts-a_held_chain_is_gathered
ghosts-a_held_chain_is_gathered g a = record { name = a.blank.name; parts = a.blank.parts }

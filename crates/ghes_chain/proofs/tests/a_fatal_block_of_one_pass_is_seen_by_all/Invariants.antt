use Rattle.ghes_chain.proofs.tests.a_fatal_block_of_one_pass_is_seen_by_all.Given as goal

abbrev pub ghosts-a_fatal_block_is_seen : goal.ghosts-a_fatal_block_is_seen
ghosts-a_fatal_block_is_seen g a = record { name = a.blank.name; parts = a.blank.parts }

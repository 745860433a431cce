use Rattle.ghes_context.proofs.tests.a_context_keeps_its_log_and_its_fatal_block_while_its_pass_is_away.Given as goal

abbrev pub ghosts-comes_back : goal.ghosts-comes_back
ghosts-comes_back g a = record { name = a.blank.name; parts = a.blank.parts }

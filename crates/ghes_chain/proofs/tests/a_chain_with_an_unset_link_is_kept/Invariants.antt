use Rattle.ghes_chain.proofs.tests.a_chain_with_an_unset_link_is_kept.Given as goal

abbrev pub ghosts-a_chain_is_held : goal.ghosts-a_chain_is_held
ghosts-a_chain_is_held g a = record { name = a.blank.name; parts = a.blank.parts }

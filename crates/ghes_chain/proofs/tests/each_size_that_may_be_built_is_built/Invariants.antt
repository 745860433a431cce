use Rattle.ghes_chain.proofs.tests.each_size_that_may_be_built_is_built.Given as goal

abbrev pub ghosts-the_longest_comes_out : goal.ghosts-the_longest_comes_out
ghosts-the_longest_comes_out g a = record { name = a.blank.name; parts = a.blank.parts }

use Rattle.ghes_pool.proofs.tests.a_search_finds_each_slot_once_and_then_none.Given as goal

abbrev pub ghosts-each_slot_once : goal.ghosts-each_slot_once
ghosts-each_slot_once g a = record { name = a.blank.name; parts = a.blank.parts }

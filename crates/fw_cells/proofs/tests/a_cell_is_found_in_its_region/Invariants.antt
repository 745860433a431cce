use Rattle.fw_cells.proofs.tests.a_cell_is_found_in_its_region.Given as goal

abbrev pub ghosts-found : goal.ghosts-found
ghosts-found g a = record { name = a.blank.name; parts = a.blank.parts }

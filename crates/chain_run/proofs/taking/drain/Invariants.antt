use Rattle.chain_run.proofs.taking.drain.Given as goal

abbrev pub ghosts-take_rest : goal.ghosts-take_rest
ghosts-take_rest a = record { name = a.blank.name; parts = a.blank.parts }

use Rattle.chain_run.proofs.taking.take_alone.Given as goal

abbrev pub ghosts-take_counted : goal.ghosts-take_counted
ghosts-take_counted a = record { name = a.blank.name; parts = a.blank.parts }

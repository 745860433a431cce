use Rattle.chain_run.proofs.alone.one_by_one.Given as goal

abbrev pub ghosts-rounds : goal.ghosts-rounds
ghosts-rounds a = record { name = a.blank.name; parts = a.blank.parts }

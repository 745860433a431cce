use Rattle.nmi_bench.proofs.running.alone.Given as goal

abbrev pub ghosts-in_turn : goal.ghosts-in_turn
ghosts-in_turn a = record { name = a.blank.name; parts = a.blank.parts }

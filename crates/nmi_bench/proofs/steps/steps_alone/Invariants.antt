use Rattle.nmi_bench.proofs.steps.steps_alone.Given as goal

abbrev pub ghosts-repeated : goal.ghosts-repeated
ghosts-repeated a = record { name = a.blank.name; parts = a.blank.parts }

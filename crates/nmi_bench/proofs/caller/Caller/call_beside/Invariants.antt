use Rattle.nmi_bench.proofs.caller.Caller.call_beside.Given as goal

abbrev pub ghosts-calls : goal.ghosts-calls
ghosts-calls a = record { name = a.blank.name; parts = a.blank.parts }

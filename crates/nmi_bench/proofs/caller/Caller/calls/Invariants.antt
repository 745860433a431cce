use Rattle.nmi_bench.proofs.caller.Caller.calls.Given as goal

abbrev pub decreases-loop-self : goal.decreases-loop-self
decreases-loop-self g l = l.self.left

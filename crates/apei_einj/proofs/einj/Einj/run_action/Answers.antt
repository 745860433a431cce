-- The entries of the table are not refused, and none is of an action above 8.
use Rattle.apei_einj.proofs.AboveLemmas.{above_8}
use Rattle.apei_einj.proofs.JudgeLemmas.{runnable_accepted}
use Rattle.apei_einj.proofs.RunLemmas.{accepted-of_action}
use Rattle.apei_einj.proofs.einj.Einj.run_action.Goals as goal

pub run_entries-requires : goal.run_entries-requires
run_entries-requires g c =
    rw c.deref.ensures.value (accepted-of_action c.args.action c.self.inside.entries.items (runnable_accepted c.self.inside.entries.items c.self.invariant.runnable))

pub returns-clause-above : goal.returns-clause-above
returns-clause-above g c =
    above_8 g.B.Bus.step c.args.action c.args.value c.args.self.now (g.B.Bus.state c.args.bus.now) (g.B.Bus.state c.run_entries.new.bus) c.run_entries.result
    (rw c.self.view_is at c.self.invariant.runnable) (rw (c.deref.ensures.value, c.self.view_is) at c.run_entries.ensures.ok) (rw (c.deref.ensures.value, c.self.view_is) at c.run_entries.ensures.err)

-- The entries of the table are not refused.
use Rattle.apei_einj.proofs.JudgeLemmas.{runnable_accepted}
use Rattle.apei_einj.proofs.NoAddressLemmas.{no_address}
use Rattle.apei_einj.proofs.einj.Einj.inject.Goals as goal

pub inject_by-requires : goal.inject_by-requires
inject_by-requires g c = rw c.deref.ensures.value (runnable_accepted c.self.inside.entries.items c.self.invariant.runnable)

pub returns-clause-no_address : goal.returns-clause-no_address
returns-clause-no_address g c =
    no_address g.B.Bus.step c.args.self.now c.args.request.now (g.B.Bus.state c.args.bus.now) (g.B.Bus.state c.inject_by.new.bus) c.inject_by.result (rw (c.deref.ensures.value, c.self.view_is) at c.inject_by.ensures.does)

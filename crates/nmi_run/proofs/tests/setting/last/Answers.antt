use Rattle.std.proofs.Common.{rules}
use Rattle.nmi_run.proofs.Popped.{last_rest, last_pass}
use Rattle.nmi_run.proofs.tests.setting.last.Goals as goal

pub returns-clause-rest : goal.returns-clause-rest
returns-clause-rest g c = last_rest c.args.shared.now 4096 c.args.shared.now.slots c.args.passes.now.items c.pop.new.self.items c.expect.result (search rules) c.requires

pub returns-clause-pass : goal.returns-clause-pass
returns-clause-pass g c = last_pass c.args.shared.now 4096 c.args.shared.now.slots c.args.passes.now.items c.pop.new.self.items c.expect.result (search rules) c.requires

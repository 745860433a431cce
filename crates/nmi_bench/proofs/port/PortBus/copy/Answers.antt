use Rattle.std.proofs.Common.{rules}
use Rattle.nmi_bench.proofs.PortLemmas.{copied}
use Rattle.nmi_bench.proofs.port.PortBus.copy.Goals as goal

pub returns-then-copy_part-clause-access : goal.returns-then-copy_part-clause-access
returns-then-copy_part-clause-access c =
    let port = c.args.self.now in
    record {
      ok = copied port.block port.raised port.acknowledged port.waits port.stands port.status port.cell c.args.address c.args.skip _ port.is (search rules) (search rules) (search rules);
      err = tt;
    }

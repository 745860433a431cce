use Rattle.std.proofs.Common.{rules, arith}
use Rattle.apei_base.specs.Bus.{reach_of}
use Rattle.nmi_bench.proofs.PortLemmas.{reads_status, reads_cell, reads_none}
use Rattle.nmi_bench.proofs.port.PortBus.read.Goals as goal

pub returns-then-at-gt32-clause-access : goal.returns-then-at-gt32-clause-access
returns-then-at-gt32-clause-access c =
    let port = c.args.self.now in
    record {
      ok = reads_status port.block port.raised port.acknowledged port.waits port.stands port.status port.cell (reach_of c.args.at.now) port.is (omega arith);
      err = tt;
    }

pub returns-then-at-eq32-clause-access : goal.returns-then-at-eq32-clause-access
returns-then-at-eq32-clause-access c =
    let port = c.args.self.now in
    record {
      ok = reads_cell port.block port.raised port.acknowledged port.waits port.cell _ (reach_of c.args.at.now) (omega arith) (search rules);
      err = tt;
    }

pub returns-else-at-eq32-clause-access : goal.returns-else-at-eq32-clause-access
returns-else-at-eq32-clause-access c =
    let port = c.args.self.now in
    record {
      ok = reads_none port.block port.raised port.acknowledged port.waits port.cell _ (reach_of c.args.at.now) (omega arith);
      err = tt;
    }

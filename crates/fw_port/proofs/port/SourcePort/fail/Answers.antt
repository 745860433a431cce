use Rattle.std.proofs.Common.{rules}
use Rattle.fw_port.specs.Port.{accesses_of}
use Rattle.fw_port.proofs.NamedLemmas.{named_more}
use Rattle.fw_port.proofs.port.SourcePort.fail.Goals as goal

pub returns-in-Some-clause-kept : goal.returns-in-Some-clause-kept
returns-in-Some-clause-kept c = record {
  otherwise = search rules;
  more = named_more c.add.result c.in-Some.number (accesses_of c.args.self.now) c.add.new.self.plan c.add.ensures.ok c.add.ensures.err;
  faults = c.add.ensures.faults;
}

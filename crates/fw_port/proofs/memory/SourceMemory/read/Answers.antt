use Rattle.std.proofs.Common.{sym, ◌∙◌}
use Rattle.apei_base.specs.Bus.{reach_of}
use Rattle.fw_port.specs.Port.{seen_of}
use Rattle.fw_port.specs.SourceLaws.{read_of_status, read_of_ack}
use Rattle.fw_port.proofs.memory.SourceMemory.read.Goals as goal

pub returns-then-is_same-clause-value : goal.returns-then-is_same-clause-value
returns-then-is_same-clause-value c =
    let seen = seen_of c.args.self.now in
    c.status_value.ensures.value ∙ sym (read_of_status seen (reach_of c.args.at.now) c.args.self.now.layout.is (sym c.is_same.ensures ∙ c.if-is_same.true))

pub returns-then-is_ack-clause-value : goal.returns-then-is_ack-clause-value
returns-then-is_ack-clause-value c =
    let seen = seen_of c.args.self.now in
    sym (read_of_ack seen (reach_of c.args.at.now) c.args.self.now.layout.is c.args.self.now.is.fits (sym c.is_ack.ensures ∙ c.if-is_ack.true))

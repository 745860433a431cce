use Rattle.std.proofs.Common.{rules, refl}
use Rattle.std.proofs.lemmas.Option.{slice_get_read}
use Rattle.ghes_rule.specs.Moves.{with_load}
use Rattle.ghes_context.specs.Ends.{is_stopped}
use Rattle.ghes_context.specs.Told.{standing_packet}
use Rattle.ghes_context.proofs.NmiLemmas.{nmi_is, told_claims}
use Rattle.ghes_context.proofs.context.Context.nmi.Goals as goal

pub returns-clause-call : goal.returns-clause-call
returns-clause-call g c =
    let did = c.call-pass.ensures in
    nmi_is c.args.shared.now.slots c.args.source c.args.now c.args.self.now _ (g.P.Firmware.seen c.args.port.now) (g.P.Firmware.seen c.call-pass.new.port) (g.P.Bus.faults c.args.port.now) (g.P.Bus.faults c.call-pass.new.port) c.call-pass.result.1 c.index.result.now c.args.self.now.sources c.call-pass.new.reader
    (slice_get_read c.args.self.now.sources _ c.args.source c.index.result.now refl c.requires.source (search rules)) c.enter.ensures.kept.reader did.outcome did.port did.ack did.count (search rules)

pub returns-clause-claims : goal.returns-clause-claims
returns-clause-claims g c = told_claims c.args.shared.now.slots (standing_packet c.args.source c.index.result.now.limit (g.P.Firmware.seen c.args.port.now)) (with_load c.args.self.now.pass.view (is_stopped c.call-pass.result.1.outcome)) c.call-pass.result.0.view c.call-pass.result.1.outcome (search rules)

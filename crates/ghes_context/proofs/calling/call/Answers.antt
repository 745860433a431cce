use Rattle.std.proofs.Common.{subst}
use Rattle.ghes_throttle.specs.Reports.{hit}
use Rattle.ghes_context.specs.Found.{standing_image, Finds, IsFound}
use Rattle.ghes_context.proofs.OutcomeLemmas.{found_outcome}
use Rattle.ghes_context.proofs.calling.call.Goals as goal

pub returns-in-Ok-Some-clause-outcome : goal.returns-in-Ok-Some-clause-outcome
returns-in-Ok-Some-clause-outcome g c =
    let port = g.P.Firmware.seen c.args.port.now in
    let limit = c.args.ask.now.receive.now.limit in
    let found : IsFound limit port c.find.new.image.bytes c.in-Ok-Some.found = subst (Finds limit port c.find.new.image.bytes) c.in-Ok-Some.field-0-is c.in-Ok-Some.ensures.found in
    let reply = c.end_found.result.1 in
    found_outcome limit port (hit c.end_found.new.reader.list (standing_image limit port) c.args.ask.now.time) reply.ack found.stands reply.outcome
    (cc (c.end_found.ensures.outcome, found.said, found.image, c.requires.number))

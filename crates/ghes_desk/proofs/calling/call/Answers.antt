use Rattle.std.proofs.Common.{subst}
use Rattle.ghes_throttle.specs.Cache.{hit_of}
use Rattle.ghes_desk.specs.Found.{standing_image, Finds, IsFound}
use Rattle.ghes_desk.specs.Pending.{is_full}
use Rattle.ghes_desk.proofs.OutcomeLemmas.{ok_more, found_outcome}
use Rattle.ghes_desk.proofs.calling.call.Goals as goal

pub returns-in-Ok-Some-clause-outcome : goal.returns-in-Ok-Some-clause-outcome
returns-in-Ok-Some-clause-outcome g c =
    let port = g.P.Firmware.seen c.args.port.now in
    let limit = c.args.ask.now.receive.now.limit in
    let found : IsFound limit port c.find.new.image.bytes c.in-Ok-Some.found = subst (Finds limit port c.find.new.image.bytes) c.in-Ok-Some.field-0-is c.in-Ok-Some.ensures.found in
    let looked = hit_of c.args.ask.now.cache.now.places (standing_image limit port) c.args.ask.now.time in
    ok_more _ _ c.end_found.result
    (λ answer is. found_outcome limit port looked (is_full c.args.pending.now) answer.reply.ack found.stands answer.reply.outcome (cc (is, found.said, found.image, c.requires.number)))
    c.end_found.ensures.outcome

use Rattle.std.proofs.Common.{◌≡◌, ◌≤◌, ap, arith}
use Rattle.ghes_desk.proofs.RoomLemmas.{within_after}
use Rattle.ghes_desk.proofs.desk.Desk.call.Goals as goal

pub invariant_of-self : goal.invariant_of-self
invariant_of-self g c =
    let kept = c.self.invariant in
    let limit = c.args.receive.now.limit in
    let n = c.self.inside.block_len in
    let same : n ≡ c.args.self.now.block_len = ap (λ d. d.block_len) c.self.view_is in
    let within : limit ≤ n = omega (arith, same, c.requires.limit) in (
      omega (arith, kept.0, c.call.ensures.room),
      kept.1,
      kept.2,
      within_after n limit c.args.at (g.P.Firmware.seen c.args.port.now) (λ answer. answer.reply.outcome) c.call.result c.self.inside.pending c.call.new.pending
          c.requires.header within c.call.ensures.pending c.call.ensures.err kept.3,
    )

use Rattle.std.proofs.Common.{refl, ap, ◌∙◌}
use Rattle.ghes_desk.specs.Desk.{marked}
use Rattle.ghes_lines.proofs.ExecLemmas.{on_ok, goes_made}
use Rattle.ghes_lines.proofs.FollowsLemmas.{follows_raise}
use Rattle.ghes_lines.proofs.LedLemmas.{room}
use Rattle.ghes_lines.proofs.executing.raise.Goals as goal

pub raise_at-requires-clause-few : goal.raise_at-requires-clause-few
raise_at-requires-clause-few g c = λ port there.
    room (g.P.Firmware.seen) (g.P.Bus.faults) c.args.machine.now c.args.ports.now c.args.desk.now c.requires.led.history c.requires.led.follows c.args.at port c.requires.within c.requires.room there

pub returns-clause-ok : goal.returns-clause-ok
returns-clause-ok g c =
    let seen = g.P.Firmware.seen in
    let faults = g.P.Bus.faults in
    let machine = c.args.machine.now in
    let desk = c.args.desk.now in
    let at = c.in_ok-raise_at.ensures.ok in
    on_ok _ _ c.mark.result
    (λ is before f. goes_made seen faults machine _ c.args.ports.now _ _ desk _ _ before _ refl c.requires.room f at.now (is ∙ ap (marked c.args.number) c.count.ensures)
    (follows_raise seen faults machine c.args.ports.now desk before c.args.number c.args.at c.args.block.now at.port at.port' at.there at.did.0 at.did.1 c.requires.running f))
    c.mark.ensures

use Rattle.std.proofs.Common.{◌≡◌, ◌∷◌, ◌++◌, [], refl, ap, ◌∙◌}
use Rattle.ghes_desk.specs.Desk.{marked}
use Rattle.ghes_lines.proofs.ExecLemmas.{on_ok, goes_on, cell_told}
use Rattle.ghes_lines.proofs.FollowsLemmas.{follows_peek}
use Rattle.ghes_lines.proofs.LedLemmas.{there_is, within}
use Rattle.ghes_lines.proofs.executing.peek.Goals as goal

pub returns-clause-ok : goal.returns-clause-ok
returns-clause-ok g c =
    let seen = g.P.Firmware.seen in
    let faults = g.P.Bus.faults in
    let machine = c.args.machine.now in
    let ports = c.args.ports.now in
    let desk = c.args.desk.now in
    let source = there_is machine.sources.items c.args.at c.requires.within in
    let port = there_is ports c.args.at (within seen faults machine ports desk c.requires.led.history c.requires.led.follows c.args.at c.requires.within) in
    let cell : c.cell_at.result ≡ (seen port.0).cell = c.cell_at.ensures port.0 port.1 ∙ cell_told (seen port.0).layout.ack (seen port.0).cell (g.met.P.Firmware.sound port.0).fits in
    on_ok _ _ c.mark.result
    (λ is before f. goes_on seen faults machine _ ports _ _ before _ refl refl
    (is ∙ ap (marked c.args.number) c.in_ok-peek.ensures ∙ ap (λ n. marked c.args.number (record desk { ledger = record desk.ledger { peeks = desk.ledger.peeks ++ n ∷ [] } })) cell)
    (follows_peek seen faults machine ports desk before c.args.number c.args.at source.0 port.0 source.1 port.1 c.requires.running f))
    c.mark.ensures

use Rattle.std.proofs.Common.{refl}
use Rattle.ghes_lines.proofs.ExecLemmas.{on_ok, goes_at}
use Rattle.ghes_lines.proofs.FollowsLemmas.{follows_fail}
use Rattle.ghes_lines.proofs.executing.fail.Goals as goal

pub returns-clause-ok : goal.returns-clause-ok
returns-clause-ok g c =
    let seen = g.P.Firmware.seen in
    let faults = g.P.Bus.faults in
    let machine = c.args.machine.now in
    let desk = c.args.desk.now in
    let at = c.in_ok-fail_at.ensures in
    on_ok _ _ c.mark.result
    (λ is before f. goes_at seen faults machine _ _ _ _ _ before _ refl refl at.now is
    (follows_fail seen faults machine c.args.ports.now desk before c.args.number c.args.at at.port at.port' at.there at.did.0 at.did.1 c.requires.running f))
    c.mark.ensures

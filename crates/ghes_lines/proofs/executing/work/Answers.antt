use Rattle.std.proofs.Common.{refl, ap, ◌∙◌}
use Rattle.ghes_desk.specs.Desk.{marked}
use Rattle.ghes_lines.proofs.ExecLemmas.{on_ok, goes_on}
use Rattle.ghes_lines.proofs.FollowsLemmas.{follows_work}
use Rattle.ghes_lines.proofs.executing.work.Goals as goal

pub returns-clause-ok : goal.returns-clause-ok
returns-clause-ok g c =
    let seen = g.P.Firmware.seen in
    let faults = g.P.Bus.faults in
    let machine = c.args.machine.now in
    let desk = c.args.desk.now in
    on_ok _ _ c.mark.result
    (λ is before f. goes_on seen faults machine _ c.args.ports.now _ _ before _ refl refl (is ∙ ap (marked c.args.number) c.in_ok-work.ensures) (follows_work seen faults machine c.args.ports.now desk before c.args.number c.requires.running f))
    c.mark.ensures

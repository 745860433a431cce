use Rattle.std.proofs.Common.{refl, ap, ◌∙◌}
use Rattle.ghes_desk.specs.Desk.{marked}
use Rattle.ghes_lines.specs.Injector.{IsTold}
use Rattle.ghes_lines.specs.declared.injector.Injected.TheVariants.{Ended}
use Rattle.ghes_lines.proofs.ExecLemmas.{on_ok, goes_on, tells_on}
use Rattle.ghes_lines.proofs.FollowsLemmas.{follows_ended}
use Rattle.ghes_lines.proofs.executing.ended.Goals as goal

pub returns-clause-ok : goal.returns-clause-ok
returns-clause-ok g c =
    let seen = g.P.Firmware.seen in
    let faults = g.P.Bus.faults in
    let machine = c.args.machine.now in
    let desk = c.args.desk.now in
    on_ok _ _ c.mark.result
    (λ is before f. goes_on seen faults machine _ c.args.ports.now _ _ before _ refl refl (is ∙ ap (marked c.args.number) c.in_ok-end_injection.ensures)
    (follows_ended seen faults machine c.args.ports.now desk before c.args.number c.args.end c.requires.none c.requires.running f))
    c.mark.ensures

pub returns-clause-told : goal.returns-clause-told
returns-clause-told g c =
    let seen = g.P.Firmware.seen in
    let faults = g.P.Bus.faults in
    let machine = c.args.machine.now in
    let desk = c.args.desk.now in
    on_ok _ _ c.mark.result
    (λ is before f. tells_on seen faults machine (IsTold (Ended c.args.end)) _ c.args.ports.now _ _ before _ (refl, refl) refl refl (is ∙ ap (marked c.args.number) c.in_ok-end_injection.ensures)
    (follows_ended seen faults machine c.args.ports.now desk before c.args.number c.args.end c.requires.none c.requires.running f))
    c.mark.ensures

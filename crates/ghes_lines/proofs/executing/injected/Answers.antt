use Rattle.std.proofs.Common.{◌<◌, ◌+◌, [], ◌∷◌, length, refl, sym, ap, subst, ◌∙◌}
use Rattle.ghes_ledger.specs.declared.ledger.InjectionEnd.TheVariants.{Made}
use Rattle.ghes_desk.specs.Desk.{marked}
use Rattle.ghes_lines.specs.Injector.{IsTold}
use Rattle.ghes_lines.specs.declared.injector.Injected.TheVariants.{Made as InjectedMade}
use Rattle.ghes_lines.proofs.ExecLemmas.{on_ok, goes_made, tells_made}
use Rattle.ghes_lines.proofs.FollowsLemmas.{follows_made, with_end}
use Rattle.ghes_lines.proofs.LedLemmas.{room, there_is}
use Rattle.ghes_lines.proofs.executing.injected.Goals as goal

pub raise_at-requires-clause-few : goal.raise_at-requires-clause-few
raise_at-requires-clause-few g c = λ port there.
    room (g.P.Firmware.seen) (g.P.Bus.faults) c.args.machine.now c.args.ports.now c.args.desk.now c.requires.led.history c.requires.led.follows c.from-at.result port (subst (λ n. n < length c.args.machine.now.sources.items) (sym c.from-at.ensures) c.requires.within) c.requires.room there

pub returns-clause-ok : goal.returns-clause-ok
returns-clause-ok g c =
    let seen = g.P.Firmware.seen in
    let faults = g.P.Bus.faults in
    let machine = c.args.machine.now in
    let desk = c.args.desk.now in
    let s = c.from-at.result in
    let seq = c.raised_at-seq.result + 1 in
    let at = c.in_ok-raise_at.ensures.ok in
    let source = there_is machine.sources.items s (subst (λ n. n < length machine.sources.items) (sym c.from-at.ensures) c.requires.within) in
    on_ok _ _ c.mark.result
    (λ is before f. goes_made seen faults machine _ c.args.ports.now _ _ desk _ _ before _ refl c.requires.room f at.now
    (is ∙ ap (marked c.args.number) c.in_ok-end_injection.ensures
    ∙ ap (λ d. marked c.args.number (with_end (Made c.args.source seq) d)) c.count.ensures
    ∙ ap (λ n. marked c.args.number (with_end (Made n seq) (record desk { blocks = desk.blocks + 1 }))) (sym c.from-at.ensures))
    (follows_made seen faults machine c.args.ports.now desk before c.args.number s c.args.block.now seq at.port at.port' at.there source.0 source.1 (ap (λ n. n + 1) (c.raised_at-seq.ensures.value at.port at.there)) at.did.0 at.did.1 c.requires.running f))
    c.mark.ensures

pub returns-clause-told : goal.returns-clause-told
returns-clause-told g c =
    let seen = g.P.Firmware.seen in
    let faults = g.P.Bus.faults in
    let machine = c.args.machine.now in
    let desk = c.args.desk.now in
    let s = c.from-at.result in
    let seq = c.raised_at-seq.result + 1 in
    let at = c.in_ok-raise_at.ensures.ok in
    let source = there_is machine.sources.items s (subst (λ n. n < length machine.sources.items) (sym c.from-at.ensures) c.requires.within) in
    on_ok _ _ c.mark.result
    (λ is before f. tells_made seen faults machine (IsTold (InjectedMade c.args.source c.args.block.now)) _ c.args.ports.now _ _ desk _ _ before _ (ap (λ n. record { source = n; bytes = c.args.block.now } ∷ []) c.from-at.ensures) refl c.requires.room f at.now
    (is ∙ ap (marked c.args.number) c.in_ok-end_injection.ensures
    ∙ ap (λ d. marked c.args.number (with_end (Made c.args.source seq) d)) c.count.ensures
    ∙ ap (λ n. marked c.args.number (with_end (Made n seq) (record desk { blocks = desk.blocks + 1 }))) (sym c.from-at.ensures))
    (follows_made seen faults machine c.args.ports.now desk before c.args.number s c.args.block.now seq at.port at.port' at.there source.0 source.1 (ap (λ n. n + 1) (c.raised_at-seq.ensures.value at.port at.there)) at.did.0 at.did.1 c.requires.running f))
    c.mark.ensures

use Rattle.std.proofs.Common.{refl}
use Rattle.std.proofs.lemmas.Option.{slice_get_read}
use Rattle.ghes_lines.proofs.ExecLemmas.{on_ok, goes_at}
use Rattle.ghes_lines.proofs.LedLemmas.{all_at, of_source}
use Rattle.ghes_lines.proofs.NmiFollows.{follows_nmi}
use Rattle.ghes_lines.proofs.executing.nmi.Goals as goal

pub nmi_at-requires-clause-source : goal.nmi_at-requires-clause-source
nmi_at-requires-clause-source g c = λ port there.
    of_source (g.P.Firmware.seen) (g.P.Bus.faults) c.args.machine.now c.args.ports.now c.args.desk.now c.requires.led.history c.requires.led.follows c.args.at c.index.result.now port (slice_get_read c.args.machine.now.sources.items _ c.args.at c.index.result.now refl c.requires.within c.index.ensures) there

pub returns-clause-ok : goal.returns-clause-ok
returns-clause-ok g c =
    let seen = g.P.Firmware.seen in
    let faults = g.P.Bus.faults in
    let machine = c.args.machine.now in
    let desk = c.args.desk.now in
    let source = c.index.result.now in
    let at = c.in_ok-nmi_at.ensures.ok in
    let there = slice_get_read machine.sources.items _ c.args.at source refl c.requires.within c.index.ensures in
    on_ok _ _ c.mark.result
    (λ is before f. goes_at seen faults machine _ _ _ _ _ before _ refl refl at.now is
    (follows_nmi seen faults machine desk.block_len c.args.ports.now desk c.nmi_at.new.desk before c.args.number c.args.at source at.port at.port' there (all_at _ machine.sources.items c.args.at source c.requires.machine.sources there)
    at.there (g.met.P.Firmware.sound at.port').planned c.requires.running at.did f))
    c.mark.ensures

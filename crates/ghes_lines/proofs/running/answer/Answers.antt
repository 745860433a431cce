use Rattle.std.proofs.Common.{refl, sym, ap, ◌∙◌}
use Rattle.std.proofs.lemmas.Option.{slice_get_read}
use Rattle.ghes_nmi.specs.Receive.{receive_seen}
use Rattle.ghes_lines.specs.Machine.{server_of}
use Rattle.ghes_lines.proofs.LedLemmas.{all_at}
use Rattle.ghes_lines.proofs.MidwayLemmas.{continues_stop, continues_call, turn_context}
use Rattle.ghes_desk.proofs.OutcomeLemmas.{ok_more}
use Rattle.ghes_lines.proofs.RunningLemmas.{not_stopped, was_stopped}
use Rattle.ghes_lines.proofs.running.answer.Goals as goal

pub returns-then-is_stopped-clause-goes : goal.returns-then-is_stopped-clause-goes
returns-then-is_stopped-clause-goes g c =
    let machine = c.args.machine.now in
    let desk = c.args.desk.now in
    let source = c.index.result.now in
    let there = slice_get_read machine.sources.items _ c.args.at source refl c.requires.inside c.index.ensures in
    continues_stop g.P.Firmware.seen g.P.Bus.faults machine desk.block_len c.args.ports.now desk c.args.at source c.stopped_call.result there
    (all_at _ machine.sources.items c.args.at source c.requires.machine.sources there)
    (was_stopped desk.ledger.panic c.is_stopped.result c.is_stopped.ensures c.if-is_stopped.true) c.stopped_call.ensures

pub returns-then-is_stopped-clause-context : goal.returns-then-is_stopped-clause-context
returns-then-is_stopped-clause-context g c =
    let there = slice_get_read c.args.machine.now.sources.items _ c.args.at c.index.result.now refl c.requires.inside c.index.ensures in
    ap (λ call. call.context) c.stopped_call.ensures ∙ ap server_of (sym there)

pub turn_at-requires-clause-source : goal.turn_at-requires-clause-source
turn_at-requires-clause-source g c = λ port is.
    c.requires.source c.index.result.now port (slice_get_read c.args.machine.now.sources.items _ c.args.at c.index.result.now refl c.requires.inside c.index.ensures) is

pub returns-clause-goes : goal.returns-clause-goes
returns-clause-goes g c =
    let machine = c.args.machine.now in
    let desk = c.args.desk.now in
    let source = c.index.result.now in
    let there = slice_get_read machine.sources.items _ c.args.at source refl c.requires.inside c.index.ensures in
    ok_more _ _ c.turn_at.result
    (λ call is. continues_call g.P.Firmware.seen g.P.Bus.faults machine desk.block_len c.args.ports.now c.turn_at.new.ports desk c.turn_at.new.desk c.args.at source call there
    (all_at _ machine.sources.items c.args.at source c.requires.machine.sources there) (λ port. (g.met.P.Firmware.sound port).planned)
    (not_stopped desk.ledger.panic c.is_stopped.result c.is_stopped.ensures c.if-is_stopped.false) is)
    c.turn_at.ensures.ok

pub returns-clause-context : goal.returns-clause-context
returns-clause-context g c =
    let source = c.index.result.now in
    let there = slice_get_read c.args.machine.now.sources.items _ c.args.at source refl c.requires.inside c.index.ensures in
    ok_more _ _ c.turn_at.result
    (λ call is. turn_context g.P.Firmware.seen g.P.Bus.faults c.args.machine.now (receive_seen source.receive) source.server c.args.at c.args.ports.now c.turn_at.new.ports c.args.desk.now c.turn_at.new.desk call is ∙ ap server_of (sym there))
    c.turn_at.ensures.ok

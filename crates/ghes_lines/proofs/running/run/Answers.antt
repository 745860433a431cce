use Rattle.std.proofs.Common.{◌≡◌, List, length, refl, sym, ap, subst, ◌∙◌, arith}
use Rattle.std.specs.List.{range_with_len}
use Rattle.ghes_call.specs.declared.call.Call.{Call}
use Rattle.ghes_desk.specs.Desk.{marked, worked, entered_by}
use Rattle.ghes_lines.specs.Midway.{IsMidway}
use Rattle.ghes_lines.proofs.ExecLemmas.{on_ok, goes_on}
use Rattle.ghes_lines.proofs.MidwayLemmas.{midway_begins}
use Rattle.ghes_lines.proofs.RunFollows.{follows_turns}
use Rattle.ghes_lines.proofs.running.run.Goals as goal

pub returns-clause-ok : goal.returns-clause-ok
returns-clause-ok g c =
    let seen = g.P.Firmware.seen in
    let faults = g.P.Bus.faults in
    let machine = c.args.machine.now in
    let start = c.args.desk.now in
    let desk = c.all_turns.new.desk in
    let calls = c.all_turns.new.calls.items in
    let count : c.len.result ≡ length machine.sources.items = omega (arith, c.len.ensures) in
    let entered : c.enter_calls.new.self ≡ record desk { ledger = entered_by (range_with_len 0 (length machine.sources.items)) calls desk.ledger } =
    c.in_ok-enter_calls.ensures
    ∙ ap (λ n. record desk { ledger = entered_by (range_with_len 0 n) c.deref.result.now desk.ledger }) count
    ∙ ap (λ xs. record desk { ledger = entered_by (range_with_len 0 (length machine.sources.items)) xs desk.ledger }) c.deref.ensures.value in
    on_ok _ _ c.mark.result
    (λ is before f.
    let begun : IsMidway seen faults machine c.args.number before start c.args.ports.now start c.new-calls.result.items =
    subst (λ (xs : List Call). IsMidway seen faults machine c.args.number before start c.args.ports.now start xs) (sym c.new-calls.ensures.items) (midway_begins seen faults machine c.args.number before c.args.ports.now start f) in
    goes_on seen faults machine _ c.all_turns.new.ports _ _ before _ refl refl (is ∙ ap (marked c.args.number) c.in_ok-work.ensures ∙ ap (λ d. marked c.args.number (worked d)) entered)
    (follows_turns seen faults machine c.args.number c.args.n before start desk c.args.ports.now c.all_turns.new.ports calls c.requires.running c.in_ok-all_turns.ensures.turns f
    (c.in_ok-all_turns.ensures.goes c.args.number before start begun)))
    c.mark.ensures

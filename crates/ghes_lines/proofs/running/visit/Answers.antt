use Rattle.std.proofs.Common.{◌≡◌, Bool, true, false, cond, eqb, List, [], ◌∷◌, ◌++◌, refl, sym, ap, subst, ◌∙◌, rules}
use Rattle.std.specs.Prelude.{slice_get}
use Rattle.std.proofs.lemmas.Bool.{eq-eqb, ne_eqb}
use Rattle.std.proofs.lemmas.Option.{slice_get_read}
use Rattle.ghes_call.specs.declared.call.Call.{Call}
use Rattle.ghes_ledger.specs.Outcomes.{ends_turns}
use Rattle.ghes_lines.specs.Machine.{server_of}
use Rattle.ghes_lines.specs.Midway.{line_by_line, with_lists, IsMidway, IsPart}
use Rattle.ghes_lines.proofs.LedLemmas.{of_source}
use Rattle.ghes_lines.proofs.TurnLemmas.{part_none, part_one}
use Rattle.ghes_lines.proofs.running.visit.Goals as goal

pub returns-then-index-context-clause-visits : goal.returns-then-index-context-clause-visits
returns-then-index-context-clause-visits g c = λ more.
    let sources = c.args.machine.now.sources.items in
    let calls = c.args.calls.now.items in
    let there = slice_get_read sources _ c.args.at c.index.result.now refl c.requires.inside c.index.ensures in
    let differ : eqb (server_of (slice_get sources c.args.at)) c.args.context ≡ false =
    ap (λ o. eqb (server_of o) c.args.context) there ∙ ne_eqb c.index.result.now.server c.args.context c.if-index-context.true in
    subst (λ (b : Bool). IsPart c.args.context (cond b (c.args.at ∷ more) more) more false calls calls) (sym differ) (part_none c.args.context more calls)

pub answer-requires-clause-source : goal.answer-requires-clause-source
answer-requires-clause-source g c = λ source port at there.
    let amid = c.requires.amid in
    let m = amid.midway in
    of_source g.P.Firmware.seen g.P.Bus.faults c.args.machine.now c.args.ports.now (with_lists m.entered m.marks c.args.desk.now) (line_by_line amid.number amid.before m.made) m.follows c.args.at source port at there

pub returns-clause-goes : goal.returns-clause-goes
returns-clause-goes g c = λ number before start m.
    let calls = c.args.calls.now.items in
    let pushed : c.push.new.self.items ≡ calls ++ c.in_ok-call.call ∷ [] = search rules in
    subst (λ (xs : List Call). IsMidway g.P.Firmware.seen g.P.Bus.faults c.args.machine.now number before start c.answer.new.ports c.answer.new.desk xs) (sym pushed)
    (c.in_ok-call.ensures.goes calls number before start m)

pub returns-clause-visits : goal.returns-clause-visits
returns-clause-visits g c = λ more.
    let sources = c.args.machine.now.sources.items in
    let context = c.args.context in
    let at = c.args.at in
    let calls = c.args.calls.now.items in
    let call = c.in_ok-call.call in
    let there = slice_get_read sources _ at c.index.result.now refl c.requires.inside c.index.ensures in
    let own : eqb (server_of (slice_get sources at)) context ≡ true =
    ap (λ o. eqb (server_of o) context) there ∙ eq-eqb c.index.result.now.server context c.if-index-context.false in
    let pushed : c.push.new.self.items ≡ calls ++ call ∷ [] = search rules in
    let one : IsPart context (at ∷ more) more (ends_turns call.reply.outcome) calls (calls ++ call ∷ []) =
    part_one context at more calls call c.in_ok-call.ensures.source (c.in_ok-call.ensures.context ∙ ap server_of there ∙ c.if-index-context.false) in
    subst (λ (b : Bool). IsPart context (cond b (at ∷ more) more) more c.is_last.result calls c.push.new.self.items) (sym own)
    (subst (λ (b : Bool). IsPart context (at ∷ more) more b calls c.push.new.self.items) (sym c.is_last.ensures)
    (subst (λ (xs : List Call). IsPart context (at ∷ more) more (ends_turns call.reply.outcome) calls xs) (sym pushed) one))

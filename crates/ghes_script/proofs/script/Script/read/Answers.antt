-- Each line that is read completes the lines so far, and a bad one is the first such line.
use Rattle.std.proofs.Common.{◌≡◌, ◌≢◌, ◌<◌, length, arith, sym, ◌∙◌}
use Rattle.std.proofs.lemmas.Bool.{eqb-true, eqb-false}
use Rattle.std.proofs.lemmas.List.{nil_from_length}
use Rattle.ghes_script.specs.Setup.{setup_of}
use Rattle.ghes_script.specs.declared.answer.Answer.TheVariants.{Skipped, Asks, Bad}
use Rattle.ghes_script.proofs.CutLemmas.{cut_shorter}
use Rattle.ghes_script.proofs.Scanning.{answered, scans_skipped, scans_asks, scans_bad, scans_end}
use Rattle.ghes_script.proofs.script.Script.read.Goals as goal

pub loop-rest-preserved-in-Skipped : goal.loop-rest-preserved-in-Skipped
loop-rest-preserved-in-Skipped c =
    let rest = c.loop-rest.rest.now in
    let text = c.in_ok-answer.ensures.text in
    let behind = c.in_ok-answer.after.now in
    let setup = setup_of c.args.names.now c.args.injection in
    let some : length rest ≢ 0 = eqb-false (length rest) 0 (sym c.is_empty.ensures ∙ c.loop-rest-test.true) in
    let more : 0 < length rest = omega arith in
    let shorter : length behind < length rest = cut_shorter 10 rest text behind c.in_ok-answer.ensures.cut more in
    let answer = answered _ setup c.loop-rest.sofar text _ Skipped c.in-Skipped.is c.in_ok-setup.ensures c.in_ok-answer.ensures.is in
    (omega arith, scans_skipped setup c.args.bytes.now c.loop-rest.lines.items c.loop-rest.sofar c.loop-rest.number rest text behind more c.in_ok-answer.ensures.cut answer c.loop-rest.invariant.1)

pub loop-rest-preserved : goal.loop-rest-preserved
loop-rest-preserved c =
    let rest = c.loop-rest.rest.now in
    let text = c.in_ok-answer.ensures.text in
    let behind = c.in_ok-answer.after.now in
    let setup = setup_of c.args.names.now c.args.injection in
    let some : length rest ≢ 0 = eqb-false (length rest) 0 (sym c.is_empty.ensures ∙ c.loop-rest-test.true) in
    let more : 0 < length rest = omega arith in
    let shorter : length behind < length rest = cut_shorter 10 rest text behind c.in_ok-answer.ensures.cut more in
    let answer = answered _ setup c.loop-rest.sofar text _ (Asks c.in-Asks.what) c.in-Asks.is c.in_ok-setup.ensures c.in_ok-answer.ensures.is in (
      omega arith,
      rw (c.in_ok-push-in-Asks.ensures.items, c.after-sofar.ensures) (
          scans_asks setup c.args.bytes.now c.loop-rest.lines.items c.loop-rest.sofar c.loop-rest.number c.in-Asks.what rest text behind more c.in_ok-answer.ensures.cut answer c.loop-rest.invariant.1
          ),
    )

pub returns-in-Bad-clause-refused : goal.returns-in-Bad-clause-refused
returns-in-Bad-clause-refused c =
    let rest = c.loop-rest.rest.now in
    let text = c.in_ok-answer.ensures.text in
    let setup = setup_of c.args.names.now c.args.injection in
    let some : length rest ≢ 0 = eqb-false (length rest) 0 (sym c.is_empty.ensures ∙ c.loop-rest-test.true) in
    let answer = answered _ setup c.loop-rest.sofar text _ (Bad c.in-Bad.kind) c.in-Bad.is c.in_ok-setup.ensures c.in_ok-answer.ensures.is in
    scans_bad setup c.args.bytes.now c.loop-rest.lines.items c.loop-rest.sofar c.loop-rest.number c.in-Bad.kind rest text c.in_ok-answer.after.now (omega arith) c.in_ok-answer.ensures.cut answer c.loop-rest.invariant.1

pub returns-clause-found : goal.returns-clause-found
returns-clause-found c =
    let rest = c.loop-rest.rest.now in
    let setup = setup_of c.args.names.now c.args.injection in
    let empty : length rest ≡ 0 = eqb-true (length rest) 0 (sym c.is_empty.ensures ∙ c.loop-rest-test.false) in
    scans_end setup c.args.bytes.now c.loop-rest.lines.items c.loop-rest.sofar c.loop-rest.number rest (nil_from_length rest empty) c.loop-rest.invariant.1

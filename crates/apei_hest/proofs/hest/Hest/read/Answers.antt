-- The walk over the structures judges the table.
use Rattle.std.proofs.Common.{◌≡◌, None, Err, length, drop, arith, sym, ap, subst, ◌∙◌}
use Rattle.std.proofs.lemmas.List.{length-drop}
use Rattle.std.proofs.lemmas.Result.{err_from_is_err_and}
use Rattle.apei_base.proofs.CutLemmas.{cuts_length}
use Rattle.apei_base.specs.Number.{number_at}
use Rattle.apei_hest.specs.Structure.{IsStructure}
use Rattle.apei_hest.specs.Hest.{front_refusal, Judges}
use Rattle.apei_hest.specs.declared.error.HestError.TheVariants.{CountMismatch}
use Rattle.apei_hest.proofs.JudgeLemmas.{front_accepted, judges_accepted, judges_miscounted, judges_stopped}
use Rattle.apei_hest.proofs.hest.Hest.read.Goals as goal

pub returns-in_err-walk-clause-refused : goal.returns-in_err-walk-clause-refused
returns-in_err-walk-clause-refused c =
    let front : front_refusal c.args.bytes.now ≡ None = front_accepted c.args.bytes.now (sym c.in_ok-read.ensures.err) c.if-bytes-lt-FIRST_STRUCTURE.false in
    let exit = err_from_is_err_and c.from_residual-in_err-walk.result c.from_residual-in_err-walk.ensures.1 in
    rw (exit.1, exit.2) (λ other. judges_stopped c.args.bytes.now _ front (c.in_err-walk.ensures.refused other))

pub overflow_cast-found : goal.overflow_cast-found
overflow_cast-found c =
    let walked = c.in_ok-walk.ensures.found in
    let small = c.in_ok-read.ensures.small in
    let size = cuts_length IsStructure (drop 40 c.args.bytes.now) walked.0 _ walked.1.cut in
    omega (arith, size, walked.1.few, length-drop 40 c.args.bytes.now, ap length c.into_sources-sources.ensures, c.len-found.ensures)

pub returns-then-said-found-clause-refused : goal.returns-then-said-found-clause-refused
returns-then-said-found-clause-refused c =
    let front : front_refusal c.args.bytes.now ≡ None = front_accepted c.args.bytes.now (sym c.in_ok-read.ensures.err) c.if-bytes-lt-FIRST_STRUCTURE.false in
    let walked = c.in_ok-walk.ensures.found in
    let count : c.len-found.result ≡ length c.in_ok-walk.field-0 = c.len-found.ensures ∙ c.into_sources-sources.result.ok.0 ∙ ap length c.into_sources-sources.ensures in
    let other : number_at 36 4 c.args.bytes.now ≡ length c.in_ok-walk.field-0 → ⊥ = λ same. c.if-said-found.true (c.u32_at-said.ensures ∙ same ∙ sym count) in
    λ _. subst (λ n. Judges c.args.bytes.now (Err (CountMismatch n c.len-found.result))) (sym c.u32_at-said.ensures)
    (subst (λ n. Judges c.args.bytes.now (Err (CountMismatch (number_at 36 4 c.args.bytes.now) n))) (sym count)
    (judges_miscounted c.args.bytes.now walked.0 c.in_ok-walk.field-0 front walked.1 other))

pub returns-clause-found : goal.returns-clause-found
returns-clause-found c =
    let front : front_refusal c.args.bytes.now ≡ None = front_accepted c.args.bytes.now (sym c.in_ok-read.ensures.err) c.if-bytes-lt-FIRST_STRUCTURE.false in
    let walked = c.in_ok-walk.ensures.found in
    let count : number_at 36 4 c.args.bytes.now ≡ length c.in_ok-walk.field-0 =
    sym c.u32_at-said.ensures ∙ c.if-said-found.false ∙ c.len-found.ensures ∙ c.into_sources-sources.result.ok.0 ∙ ap length c.into_sources-sources.ensures in
    rw c.into_sources-sources.ensures (judges_accepted c.args.bytes.now walked.0 c.in_ok-walk.field-0 front walked.1 count)

pub invariant_of-result : goal.invariant_of-result
invariant_of-result c = rw c.into_sources-sources.ensures c.in_ok-walk.ensures.found.1.accepted

pub returns-clause-accepted : goal.returns-clause-accepted
returns-clause-accepted c = rw c.into_sources-sources.ensures c.in_ok-walk.ensures.found.1.accepted

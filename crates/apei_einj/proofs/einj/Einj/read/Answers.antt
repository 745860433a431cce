-- The header, the count, the entries and the missing actions judge the table, one behind the other.
use Rattle.std.proofs.Common.{◌≡◌, None, Some, sym, ap, ◌∙◌}
use Rattle.apei_einj.specs.Refusal.{missing_refusal}
use Rattle.apei_einj.proofs.JudgeLemmas.{judged_by_missing}
use Rattle.apei_einj.proofs.LawLemmas.{anchors_of}
use Rattle.apei_einj.proofs.einj.Einj.read.Goals as goal

pub returns-in-Some-clause-refused : goal.returns-in-Some-clause-refused
returns-in-Some-clause-refused c =
    let missing : missing_refusal c.in_ok-entries.entries.items ≡ Some c.in-Some.error = ap missing_refusal (sym c.deref.ensures.value) ∙ sym c.missing_refusal.ensures ∙ c.in-Some.is in
    λ other. judged_by_missing c.args.bytes.now c.in_ok-entries.entries.items (sym c.in_ok-read.ensures.err) (sym c.in_ok-check_header.ensures.err)
    (sym c.in_ok-check_count.ensures.err) c.in_ok-entries.ensures.found c.in_ok-entries.ensures.runnable ∙ missing

pub returns-clause-accepted : goal.returns-clause-accepted
returns-clause-accepted c =
    let missing : missing_refusal c.in_ok-entries.entries.items ≡ None = ap missing_refusal (sym c.deref.ensures.value) ∙ sym c.missing_refusal.ensures ∙ c.in_default.is in
    judged_by_missing c.args.bytes.now c.in_ok-entries.entries.items (sym c.in_ok-read.ensures.err) (sym c.in_ok-check_header.ensures.err)
    (sym c.in_ok-check_count.ensures.err) c.in_ok-entries.ensures.found c.in_ok-entries.ensures.runnable ∙ missing

pub invariant_of-result : goal.invariant_of-result
invariant_of-result c =
    let missing : missing_refusal c.in_ok-entries.entries.items ≡ None = ap missing_refusal (sym c.deref.ensures.value) ∙ sym c.missing_refusal.ensures ∙ c.in_default.is in
    record { runnable = c.in_ok-entries.ensures.runnable; anchored = anchors_of c.in_ok-entries.entries.items missing }

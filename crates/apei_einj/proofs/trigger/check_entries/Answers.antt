-- What is left of the entries decides.
use Rattle.std.proofs.Common.{◌+◌, sym, ap, ◌∙◌, drop}
use Rattle.std.proofs.lemmas.Result.{err_from_is_err_and}
use Rattle.apei_einj.specs.Entry.{of_action}
use Rattle.apei_einj.specs.Trigger.{first_reason}
use Rattle.apei_einj.proofs.RunLemmas.{own-at, other-at}
use Rattle.apei_einj.proofs.TriggerLemmas.{reason-here, reason-later, reason-end}
use Rattle.apei_einj.proofs.trigger.check_entries.Goals.{then-entry+in_ok-check_entry, else-entry}
use Rattle.apei_einj.proofs.trigger.check_entries.Goals as goal

pub returns-in_err-check_entry-clause-value : goal.returns-in_err-check_entry-clause-value
returns-in_err-check_entry-clause-value c =
    let entries = c.args.entries.now in
    let i = c.loop-entry.entry-index in
    let exit = err_from_is_err_and c.from_residual.result c.from_residual.ensures.1 in
    let here = ap first_reason (own-at 0xff entries i _ c.loop-entry-test.true c.if-entry.true) in
    let reason = reason-here _ (of_action 0xff (drop (i + 1) entries)) _ (sym c.in_err-check_entry.ensures.value) in
    rw (exit.1, exit.2) (sym reason ∙ sym here ∙ c.loop-entry.invariant)

pub loop-entry-preserved : goal.loop-entry-preserved
loop-entry-preserved c =
    let entries = c.args.entries.now in
    let i = c.loop-entry.entry-index in
    elim c.if-entry.branch [
      | then-entry+in_ok-check_entry w ↦
          sym (ap first_reason (own-at 0xff entries i _ c.loop-entry-test.true w.if-entry.true)
          ∙ reason-later _ (of_action 0xff (drop (i + 1) entries)) (sym w.in_ok-check_entry.ensures.value))
          ∙ c.loop-entry.invariant
      | else-entry w ↦
          sym (ap first_reason (other-at 0xff entries i _ c.loop-entry-test.true w.if-entry.false)) ∙ c.loop-entry.invariant
    ]

pub returns-clause-value : goal.returns-clause-value
returns-clause-value c = sym (reason-end c.args.entries.now c.loop-entry.entry-index c.loop-entry-test.false) ∙ c.loop-entry.invariant

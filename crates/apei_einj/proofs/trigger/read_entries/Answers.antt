-- One entry more, up to the last.
use Rattle.std.proofs.Common.{◌++◌, ◌∷◌, [], List, length, arith, sym, ap, ◌∙◌}
use Rattle.std.proofs.lemmas.List.{take_all, take_more_set}
use Rattle.apei_einj.specs.Trigger.{trigger_entries}
use Rattle.apei_einj.specs.declared.entry.Entry.{Entry}
use Rattle.apei_einj.proofs.TriggerLemmas.{take_more-there, length-whole}
use Rattle.apei_einj.proofs.trigger.read_entries.Goals as goal

pub loop-index-preserved : goal.loop-index-preserved
loop-index-preserved c =
    let entries = trigger_entries c.args.bytes.now in
    let entry = c.entry_at.result in
    take_more_set c.loop-index.into c.loop-index.index entry (omega arith)
    ∙ ap (λ (xs : List Entry). xs ++ entry ∷ []) c.loop-index.invariant
    ∙ sym (take_more-there entries c.loop-index.index entry c.entry_at.ensures)

pub returns : goal.returns
returns c =
    let size = length-whole c.args.bytes.now (length c.args.into.now) c.requires.whole in
    sym (take_all c.loop-index.index c.loop-index.into (omega arith)) ∙ c.loop-index.invariant
    ∙ take_all c.loop-index.index (trigger_entries c.args.bytes.now) (omega (arith, size))

-- The piece at the index is the entry's.
use Rattle.std.proofs.Common.{ap, sym, ◌∙◌, ◌+◌, ◌*◌, take, Some}
use Rattle.apei_einj.specs.Entry.{entry_of}
use Rattle.apei_einj.proofs.TriggerLemmas.{entry_there}
use Rattle.apei_einj.proofs.trigger.entry_at.Goals as goal

pub returns : goal.returns
returns c =
    let piece = c.split_at-2.ensures.front ∙ ap (take 32) c.split_at.ensures.back in
    entry_there c.args.bytes.now c.args.index c.requires.there
    ∙ ap Some (sym (c.read.ensures ∙ ap (λ xs. entry_of xs (16 + 32 * c.args.index)) piece))

-- The four words, by their places.
use Rattle.std.proofs.Common.{◌≡◌, rules, sym, ◌∙◌, codes}
use Rattle.ghes_replay.proofs.WordLemmas.{four_items, four_words}
use Rattle.ghes_replay.proofs.task.replay_names.Goals as goal

pub returns : goal.returns
returns c =
    let words = four_items c.args.words.now c.command-item.result c.hest-item.result c.einj-item.result c.script-item.result
    c.in-len4.len_at_least c.in-len4.len_below c.command-item.is c.hest-item.is c.einj-item.is c.script-item.is in
    let command : c.as_str.result.now ≡ codes "replay" = search rules in
    four_words c.args.words.now c.command-item.result c.hest-item.result c.einj-item.result c.script-item.result _ _ _ _ words
    (sym c.as_str.ensures.value ∙ command) (sym c.as_str-2.ensures.value) (sym c.as_str-3.ensures.value) (sym c.as_str-4.ensures.value)

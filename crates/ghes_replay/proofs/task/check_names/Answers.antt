-- The three words, by their places.
use Rattle.std.proofs.Common.{◌≡◌, rules, sym, ◌∙◌, codes}
use Rattle.ghes_replay.proofs.WordLemmas.{three_items, three_words}
use Rattle.ghes_replay.proofs.task.check_names.Goals as goal

pub returns : goal.returns
returns c =
    let words = three_items c.args.words.now c.command-item.result c.hest-item.result c.einj-item.result
    c.in-len3.len_at_least c.in-len3.len_below c.command-item.is c.hest-item.is c.einj-item.is in
    let command : c.as_str.result.now ≡ codes "check" = search rules in
    three_words c.args.words.now c.command-item.result c.hest-item.result c.einj-item.result _ _ _ words
    (sym c.as_str.ensures.value ∙ command) (sym c.as_str-2.ensures.value) (sym c.as_str-3.ensures.value)

-- The two words, by their places.
use Rattle.std.proofs.Common.{◌≡◌, rules, sym, ◌∙◌, codes}
use Rattle.ghes_replay.proofs.WordLemmas.{two_items, two_words}
use Rattle.ghes_replay.proofs.task.decode_name.Goals as goal

pub returns : goal.returns
returns c =
    let words = two_items c.args.words.now c.command-item.result c.block-item.result c.in-len2.len_at_least c.in-len2.len_below c.command-item.is c.block-item.is in
    let command : c.as_str.result.now ≡ codes "decode" = search rules in
    two_words c.args.words.now c.command-item.result c.block-item.result _ _ words (sym c.as_str.ensures.value ∙ command) (sym c.as_str-2.ensures.value)

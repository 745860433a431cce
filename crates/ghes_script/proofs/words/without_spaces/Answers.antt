-- Each space that is passed over is no word, and what is left begins with none.
use Rattle.std.proofs.Common.{ap, ◌∙◌}
use Rattle.ghes_script.specs.Words.{words_of}
use Rattle.ghes_script.proofs.WordLemmas.{words_of_skip}
use Rattle.ghes_script.proofs.words.without_spaces.Goals as goal

pub loop-rest-preserved : goal.loop-rest-preserved
loop-rest-preserved c =
    let begins = c.begins_with_space.ensures.0 c.loop-rest-test.true in
    ap words_of c.split_at.ensures.back ∙ words_of_skip c.loop-rest.rest.now begins.0 begins.1 ∙ c.loop-rest.invariant

pub returns-clause-first : goal.returns-clause-first
returns-clause-first c = λ some is. let begins = c.begins_with_space.ensures.1 (some, is) in cc

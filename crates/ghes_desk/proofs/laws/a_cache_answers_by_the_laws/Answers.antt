use Rattle.ghes_desk.proofs.CacheLemmas.{look_is}
use Rattle.ghes_desk.proofs.laws.a_cache_answers_by_the_laws.Goals as goal

pub returns : goal.returns
returns c = look_is

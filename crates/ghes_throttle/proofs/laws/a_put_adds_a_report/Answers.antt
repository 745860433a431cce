use Rattle.ghes_throttle.proofs.Caching.{cache_last, empty_cache}
use Rattle.ghes_throttle.proofs.laws.a_put_adds_a_report.Goals as goal

pub returns-clause-none : goal.returns-clause-none
returns-clause-none c = empty_cache

pub returns-clause-more : goal.returns-clause-more
returns-clause-more c list r = cache_last list r

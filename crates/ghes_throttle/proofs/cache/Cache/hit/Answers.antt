use Rattle.std.proofs.Common.{◌∙◌, ap}
use Rattle.ghes_throttle.specs.Cache.{hit_of}
use Rattle.ghes_throttle.proofs.cache.Cache.hit.Goals as goal

pub returns-clause-reports : goal.returns-clause-reports
returns-clause-reports c list is = c.lowest_hit.ensures ∙ ap (λ p. hit_of p c.args.bytes.now c.args.now) is

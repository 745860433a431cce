use Rattle.std.proofs.Common.{◌∙◌, sym, ap}
use Rattle.ghes_throttle.specs.Cache.{with_put}
use Rattle.ghes_throttle.specs.Reports.{cache_of, report_of}
use Rattle.ghes_throttle.proofs.Caching.{cache_last}
use Rattle.ghes_throttle.proofs.cache.Cache.put.Goals as goal

pub returns-clause-reports : goal.returns-clause-reports
returns-clause-reports c list is number =
    ap (λ s. s.places) c.put_into.ensures
    ∙ (ap (λ p. with_put p c.args.bytes.now c.args.now c.args.number) is
    ∙ (ap (λ n. with_put (cache_of list) c.args.bytes.now c.args.now n) number ∙ sym (cache_last list (report_of c.args.bytes.now c.args.now))))

use Rattle.ghes_throttle.proofs.Ruling.{starts}
use Rattle.ghes_throttle.proofs.writer.ThrottleWriter.new.Goals as goal

pub new-requires-clause-rule : goal.new-requires-clause-rule
new-requires-clause-rule g c = starts _ c.in_ok-first.ensures.list

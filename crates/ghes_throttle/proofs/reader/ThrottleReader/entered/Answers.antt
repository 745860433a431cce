use Rattle.ghes_throttle.proofs.Ruling.{looks}
use Rattle.ghes_throttle.proofs.reader.ThrottleReader.entered.Goals as goal

pub enter_as-requires : goal.enter_as-requires
enter_as-requires c x = looks _ _ x

use Rattle.ghes_rule.specs.Kept.{packet_view}
use Rattle.ghes_rule.proofs.steps.panic.set_panic.Given as goal

abbrev pub ghosts-set_word : goal.ghosts-set_word
ghosts-set_word g a = record { packet = packet_view a.fatal.now }

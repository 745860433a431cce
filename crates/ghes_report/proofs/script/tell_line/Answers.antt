-- What came of a line is some of what may be printed.
use Rattle.ghes_report.specs.Sound.{IsSoundTaken}
use Rattle.ghes_report.proofs.SoundLemmas.{all_between}
use Rattle.ghes_report.proofs.script.tell_line.Goals as goal

pub add-requires : goal.add-requires
add-requires c =
    rw c.came-came.ensures (all_between IsSoundTaken c.args.left.now.taken c.args.mark.taken c.args.ledger.now.taken c.requires)

-- The first entry, and what is left.
use Rattle.std.proofs.Common.{length, arith, ap}
use Rattle.cper_block.proofs.CutLemmas.{entries_step, begins_long}
use Rattle.cper_block.proofs.entries.EntriesIterator.next.Goals as goal

pub returns-clause-steps : goal.returns-clause-steps
returns-clause-steps c =
    let bytes = c.self.inside.rest.now in
    let found = c.in_ok-length.ensures.found in
    let long = c.in_ok-length.ensures.long in
    let step = entries_step bytes (begins_long bytes long (omega (arith, c.in_ok-length.ensures.within))) long in
    rw (← c.self.view_is, c.read.ensures, c.split_at.ensures.front, c.split_at.ensures.back, found) step

pub returns-clause-goes : goal.returns-clause-goes
returns-clause-goes c =
    record {
      on = λ finite. (tt, tt, omega (arith, ap length (returns-clause-steps c)));
      keeps = tt;
      rests = λ finite. tt;
    }

use Rattle.std.proofs.Common.{List, All, vec_len}
use Rattle.ghes_throttle.specs.declared.report.Report.{Report}
use Rattle.ghes_throttle.specs.Shown.{Book, Knows}
use Rattle.throttle_run.specs.Looks.{IsFresh}
use Rattle.throttle_run.proofs.lane.lanes.Given as goal

abbrev pub invariant-loop-reader : goal.invariant-loop-reader
invariant-loop-reader l =
    record {
      fresh : (book : Book) (list : List Report) → All (Knows book list) l.fn.readers.items → All (Knows book list) l.left.items × All (IsFresh book list) l.all.items;
    }

abbrev pub decreases-loop-reader : goal.decreases-loop-reader
decreases-loop-reader l = vec_len l.left

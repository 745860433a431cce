-- What an access of a bus answers whose cells are not told.
use Rattle.std.proofs.Common.{None}
use Rattle.apei_base.specs.Bus.{Access, Reads, Writes, Copies, Answers}

-- where no cells are told any answer is one
pub untold_answers : (access : Access) → Answers None access
untold_answers (Reads reach value) = tt
untold_answers (Writes reach value) = tt
untold_answers (Copies address bytes) = tt

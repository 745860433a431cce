-- The last of the passes at the start.
use Rattle.std.proofs.Common.{◌≡◌, ℕ, List, [], ◌∷◌, ◌++◌, length}
use Rattle.atomic_table.specs.Seated.{TableId}
use Rattle.ghes_rule.specs.Kept.{first_pass}
use Rattle.ghes_rule.specs.Seen.{PassSeen, AreFirst, pass_seen}
use Rattle.ghes_rule.proofs.Gathered.{popped_first}

pub last_rest : (z : TableId) (room k : ℕ) (old new : List PassSeen) (x : PassSeen) → old ≡ new ++ x ∷ [] → AreFirst z room k (length old) old → AreFirst z room k (length new) new
last_rest z room k old new x is first = (popped_first z room k old new x is first).0

pub last_pass : (z : TableId) (room k : ℕ) (old new : List PassSeen) (x : PassSeen) → old ≡ new ++ x ∷ [] → AreFirst z room k (length old) old → x ≡ pass_seen z (first_pass room k (length new))
last_pass z room k old new x is first = (popped_first z room k old new x is first).1

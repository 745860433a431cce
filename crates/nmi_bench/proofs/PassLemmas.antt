-- One pass fewer.
use Rattle.std.proofs.Common.{◌≡◌, ◌≤◌, ◌<◌, ◌++◌, ◌∷◌, List, [], length, length-append, arith}
use Rattle.ghes_rule.specs.Seen.{PassSeen}

pub fewer : (before after : List PassSeen) (pass : PassSeen) → before ≡ after ++ pass ∷ [] → length before ≤ 4 → length after < 4
fewer before after pass is most = grind (arith, length-append {A = PassSeen}, is, most)

pub few : (before after : List PassSeen) (pass : PassSeen) → before ≡ after ++ pass ∷ [] → length before ≤ 4 → length after ≤ 4
few before after pass is most = grind (arith, length-append {A = PassSeen}, is, most)

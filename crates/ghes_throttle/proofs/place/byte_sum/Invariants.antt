use Rattle.std.proofs.Common.{◌≡◌, ◌%◌, sum, take}
use Rattle.ghes_throttle.proofs.place.byte_sum.Given as goal

abbrev pub invariant-loop-byte : goal.invariant-loop-byte
invariant-loop-byte l = l.total ≡ sum (take l.byte-index l.bytes) % 256

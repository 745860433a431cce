use Rattle.std.proofs.Common.{◌≡◌, ◌++◌, length}
use Rattle.hex.specs.Hex.{encode_lower}
use Rattle.cper_text.proofs.bytes.digits.Given as goal

abbrev pub invariant-loop-rest : goal.invariant-loop-rest
invariant-loop-rest l =
    (l.text.added ++ encode_lower l.rest ≡ l.fn.text.added ++ encode_lower l.bytes) × (l.text.front ≡ l.fn.text.front)

abbrev pub decreases-loop-rest : goal.decreases-loop-rest
decreases-loop-rest l = length l.rest

use Rattle.std.proofs.Common.{◌≡◌, ◌<◌, ◌^◌, drop}
use Rattle.ghes_script.proofs.NumberLemmas.{numeral_after}
use Rattle.ghes_script.proofs.number.numeral.Given as goal

abbrev pub invariant-loop-byte : goal.invariant-loop-byte
invariant-loop-byte l =
    (l.value < 2 ^ 64) × (numeral_after l.base l.value (drop l.byte-index l.digits) ≡ numeral_after l.base 0 l.digits)

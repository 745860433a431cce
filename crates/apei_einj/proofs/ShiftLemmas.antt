-- Shifts of whole numbers.
use Rattle.std.proofs.Common.{◌≡◌, ◌<◌, ◌≤◌, ℕ, ◌/◌, ◌^◌, Option, Some, None, unwrap_or, sym, arith}
use Rattle.std.specs.Option.{SomeIff}
use Rattle.std.proofs.Math.Nat.{div-eq_of_lt, pow-le-pow_right}

-- a shift down of a number of 64 bits is 0 where it is by 64 or more
pub checked_shr-or_zero : (shifted : Option ℕ) (cell offset : ℕ) → cell < 2 ^ 64 → SomeIff shifted (offset < 64) (cell / 2 ^ offset) → unwrap_or shifted 0 ≡ cell / 2 ^ offset
checked_shr-or_zero None cell offset fits past =
    let above : 64 ≤ offset = omega (arith, past) in
    let grows : 2 ^ 64 ≤ 2 ^ offset = pow-le-pow_right (omega arith) above in
    sym (div-eq_of_lt (omega arith))
checked_shr-or_zero (Some x) cell offset fits found = found.1

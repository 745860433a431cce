-- The numbers of a range, one by one.
use Rattle.std.proofs.Common.{◌≡◌, ◌<◌, ℕ, suc, ◌+◌, ◌-◌, ◌∷◌, ap, arith}
use Rattle.std.specs.List.{range_with_len}

-- the first number of a range, and the others
pub range_step : (at n : ℕ) → at < n → range_with_len at (n - at) ≡ at ∷ range_with_len (at + 1) (n - (at + 1))
range_step at n less = let more : n - at ≡ suc (n - (at + 1)) = omega (arith, less) in ap (range_with_len at) more

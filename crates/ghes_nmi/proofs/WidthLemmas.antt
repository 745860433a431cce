-- A number that is cut to 64 bits and then to a register's width is cut to that width.
use Rattle.std.proofs.Common.{◌≡◌, ◌≤◌, ℕ, ◌+◌, ◌-◌, ◌%◌, ◌^◌, subst, arith}
use Rattle.std.specs.Prelude.{IsTrue}
use Rattle.apei_base.specs.Width.{is_width}
use Rattle.std.proofs.Math.Pow.{mod-mod-pow}

pub cut_twice : (number width : ℕ) → width ≤ 64 → number % 2 ^ 64 % 2 ^ width ≡ number % 2 ^ width
cut_twice number width fits =
    let is : 64 - width + width ≡ 64 = omega (arith, fits) in
    subst (λ n. number % 2 ^ n % 2 ^ width ≡ number % 2 ^ width) is (mod-mod-pow number (64 - width) width)

-- a register has at most 64 bits
pub width_fits : (width : ℕ) → IsTrue (is_width width) → width ≤ 64
width_fits width is = grind (arith, is)

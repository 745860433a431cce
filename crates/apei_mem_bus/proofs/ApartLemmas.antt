-- A read ack register that is another than the status address register.
use Rattle.std.proofs.Common.{◌≡◌, ℕ, ◌&&◌, ◌==◌, true, false, Option, Some, None, refl, arith}
use Rattle.std.proofs.lemmas.Bool.Decides.{nat_tests}
use Rattle.apei_base.specs.Bus.{Reach, same_reach, same_space}
use Rattle.apei_base.specs.Firmware.{is_reach}
use Rattle.apei_base.specs.declared.region.Space.{Space}
use Rattle.apei_base.specs.declared.region.Space.TheVariants.{Memory, Port}

-- numbers that are not those of a second place are not those of a third that is the second
apart_numbers : (a b c m n k : ℕ) → ((a == b) && (m == n)) ≡ false → ((b == c) && (n == k)) ≡ true → ((a == c) && (m == k)) ≡ false
apart_numbers a b c m n k other same = grind (arith, nat_tests)

-- one that is not the second reach is not a third that is the second
apart_parts : (p q r : Space) (a b c m n k : ℕ) → (same_space p q && (a == b) && (m == n)) ≡ false → (same_space q r && (b == c) && (n == k)) ≡ true → (same_space p r && (a == c) && (m == k)) ≡ false
apart_parts Memory Memory Memory a b c m n k other same = apart_numbers a b c m n k other same
apart_parts Port Port Port a b c m n k other same = apart_numbers a b c m n k other same
apart_parts Memory q Port a b c m n k other same = refl
apart_parts Port q Memory a b c m n k other same = refl
apart_parts Memory Port Memory a b c m n k other same = absurd (grind arith)
apart_parts Port Memory Port a b c m n k other same = absurd (grind arith)

-- what is the status address register is no read ack register
pub apart_from_status : (ack : Option Reach) (status reach : Reach) → is_reach ack status ≡ false → same_reach status reach ≡ true → is_reach ack reach ≡ false
apart_from_status None status reach other same = refl
apart_from_status (Some one) status reach other same =
    apart_parts one.space status.space reach.space one.address status.address reach.address one.width status.width reach.width other same

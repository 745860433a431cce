-- A block that is not too long is refused for a reason that does not depend on it.
use Rattle.std.proofs.Common.{◌≡◌, ◌≤◌, ℕ, Bool, false, cond, nat_lt, nat_le, List, length, Option, Some, None, ap, subst, arith}
use Rattle.std.proofs.lemmas.Bool.Decides.{nat_tests}
use Rattle.fw_port.specs.declared.port.SourcePort.{SourcePort}
use Rattle.fw_sim.specs.Raise.{blocks_in, length_refusal, IsRefused}
use Rattle.fw_sim.specs.declared.error.RaiseError.{RaiseError}
use Rattle.fw_sim.specs.declared.error.RaiseError.TheVariants.{NoSource, TooLong, Full}

not_long : (n : ℕ) → n ≤ 65536 → nat_lt 65536 n ≡ false
not_long n short = grind (arith, nat_tests)

-- a block of no bytes is refused as a short one
pub refusal_by_none : (ports : List SourcePort) (source n : ℕ) → n ≤ 65536 → length_refusal ports source n ≡ length_refusal ports source 0
refusal_by_none ports source n short =
    ap (λ (b : Bool). cond (nat_le (length ports) source) (Some NoSource) (cond b (Some TooLong) (cond (nat_le 65536 (blocks_in ports)) (Some Full) None))) (not_long n short)

-- an error that is the reason names it
pub refused_as : (one other : Option RaiseError) (error : RaiseError) → one ≡ other → IsRefused one error → IsRefused other error
refused_as one other error same is = subst (λ reason. IsRefused reason error) same is

-- A table, and bytes that are not refused as one.
use Rattle.std.proofs.Common.{◌≡◌, ◌≤◌, ℕ, ◌%◌, Bool, true, false, not, cond, ◌==◌, nat_lt, sum, List, length, take, refl, ap, ◌∙◌, arith, Option, Some, None}
use Rattle.std.specs.Str.{bytes_eq}
use Rattle.std.proofs.lemmas.Bool.{le-ltb, eqb-true, eq-eqb}
use Rattle.std.proofs.lemmas.Bool.Decides.{nat_tests}
use Rattle.std.proofs.lemmas.Slice.Eq.{bytes_eq-Decides}
use Rattle.apei_base.specs.Table.{IsTable, sdt_refusal, stated_length}
use Rattle.apei_base.specs.declared.sdt.SdtError.{SdtError}
use Rattle.apei_base.specs.declared.sdt.SdtError.TheVariants as sdt_errors

-- a test that is not met
not_met_of : (b : Bool) (error : SdtError) (later : Option SdtError) → cond b (Some error) later ≡ None → (b ≡ false) × (later ≡ None)
not_met_of true error later e = absurd (cc e)
not_met_of false error later e = (refl, e)

not_false : (b : Bool) → not b ≡ false → b ≡ true
not_false true e = refl
not_false false e = absurd (cc e)

above : (n m : ℕ) → nat_lt n m ≡ false → m ≤ n
above n m e = grind (arith, nat_tests)

-- bytes that are not refused as a table are one
pub table_of : (signature bytes : List ℕ) → sdt_refusal signature bytes ≡ None → IsTable signature bytes
table_of signature bytes e =
    let first = not_met_of (nat_lt (length bytes) 36) sdt_errors.Short _ e in
    let second = not_met_of (not (bytes_eq (take 4 bytes) signature)) sdt_errors.Signature _ first.1 in
    let third = not_met_of (not (stated_length bytes == length bytes)) sdt_errors.Length _ second.1 in
    let fourth = not_met_of (not (sum bytes % 256 == 0)) sdt_errors.Checksum _ third.1 in
    record {
      whole = above (length bytes) 36 first.0;
      signed = (bytes_eq-Decides (take 4 bytes) signature).0 (not_false (bytes_eq (take 4 bytes) signature) second.0);
      as_long = eqb-true (stated_length bytes) (length bytes) (not_false (stated_length bytes == length bytes) third.0);
      summed = eqb-true (sum bytes % 256) 0 (not_false (sum bytes % 256 == 0) fourth.0);
    }

-- a test that is not met leaves what follows
passes : (b : Bool) (error : SdtError) (later : Option SdtError) → b ≡ false → later ≡ None → cond b (Some error) later ≡ None
passes b error later unmet none = ap (λ c. cond c (Some error) later) unmet ∙ none

-- a table is not refused as one
pub refusal_of_table : (signature bytes : List ℕ) → IsTable signature bytes → sdt_refusal signature bytes ≡ None
refusal_of_table signature bytes table =
    passes (nat_lt (length bytes) 36) sdt_errors.Short _ (le-ltb (length bytes) 36 table.whole)
    (passes (not (bytes_eq (take 4 bytes) signature)) sdt_errors.Signature _ (ap not ((bytes_eq-Decides (take 4 bytes) signature).1 table.signed))
    (passes (not (stated_length bytes == length bytes)) sdt_errors.Length _ (ap not (eq-eqb (stated_length bytes) (length bytes) table.as_long))
    (passes (not (sum bytes % 256 == 0)) sdt_errors.Checksum _ (ap not (eq-eqb (sum bytes % 256) 0 table.summed)) refl)))

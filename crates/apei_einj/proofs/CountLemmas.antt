-- The count that a table states, and the entries that it has room for.
use Rattle.std.proofs.Common.{◌≡◌, ℕ, ◌*◌, ◌/◌, ◌==◌, true, false, cond, List, length, drop, sym, ap, ◌∙◌, arith, Option, Some, None}
use Rattle.std.proofs.lemmas.Bool.Decides.{nat_tests}
use Rattle.apei_einj.specs.Table.{stated_count, count_refusal}
use Rattle.apei_einj.specs.declared.error.EinjError.{EinjError}
use Rattle.apei_einj.specs.declared.error.EinjError.TheVariants.{CountMismatch}

-- the refusal by the count that is stated, and by how many bytes there are
abbrev refusal_by : ℕ → ℕ → Option EinjError
refusal_by said behind = cond (32 * said == behind) None (Some (CountMismatch said (behind / 32)))

accepted_by : (said behind : ℕ) → 32 * said ≡ behind → refusal_by said behind ≡ None
accepted_by said behind e =
    let same : (32 * said == behind) ≡ true = grind (arith, nat_tests) in
    ap (λ b. cond b None (Some (CountMismatch said (behind / 32)))) same

refused_by : (said behind : ℕ) → (32 * said ≡ behind → ⊥) → refusal_by said behind ≡ Some (CountMismatch said (behind / 32))
refused_by said behind e =
    let other : (32 * said == behind) ≡ false = grind (arith, nat_tests) in
    ap (λ b. cond b None (Some (CountMismatch said (behind / 32)))) other

-- so many entries and no more
pub count_accepted : (bytes : List ℕ) → 32 * stated_count bytes ≡ length (drop 48 bytes) → count_refusal bytes ≡ None
count_accepted bytes e = accepted_by (stated_count bytes) (length (drop 48 bytes)) e

-- another number of bytes
pub count_refused : (bytes : List ℕ) (said behind : ℕ) → said ≡ stated_count bytes → behind ≡ length (drop 48 bytes) → (32 * said ≡ behind → ⊥) → count_refusal bytes ≡ Some (CountMismatch said (behind / 32))
count_refused bytes said behind same_said same_behind other =
    ap (λ n. refusal_by n (length (drop 48 bytes))) (sym same_said) ∙ ap (refusal_by said) (sym same_behind) ∙ refused_by said behind other

-- What is known of a source that is not refused.
use Rattle.std.proofs.Common.{◌≡◌, ◌<◌, ℕ, Bool, true, false, cond, List, [], length, refl, sym, ap, ◌∙◌, arith, Option, Some, None}
use Rattle.std.specs.Prelude.{nat_le}
use Rattle.std.proofs.lemmas.Bool.Decides.{nat_tests}
use Rattle.apei_base.specs.Refusal.{first_of}
use Rattle.apei_hest.specs.Refusal.{enabled, has_id, enabled_rows, source_refusal}
use Rattle.apei_hest.specs.declared.error.HestError.{HestError}
use Rattle.apei_hest.specs.declared.error.HestError.TheVariants.{DuplicateId, TooMany}
use Rattle.apei_hest.specs.declared.source.Ghes.{Ghes}
use Rattle.apei_hest.specs.declared.source.Source.{Source}
use Rattle.apei_hest.specs.declared.source.Source.TheVariants as sources

-- where no refusal comes, its test is false and no later one comes
pub none_of : (b : Bool) (error : HestError) (later : Option HestError) → cond b (Some error) later ≡ None → (b ≡ false) × (later ≡ None)
none_of true error later none = absurd cc
none_of false error later none = (refl, none)

pub below_of : (n : ℕ) → nat_le 64 n ≡ false → n < 64
below_of n above = grind (arith, nat_tests)

-- an accepted source has an id of its own
pub new_id : (before : List Source) (ghes : Ghes) → source_refusal before (sources.Ghes ghes) ≡ None → has_id ghes.id before ≡ false
new_id before ghes none = (none_of (has_id ghes.id before) (DuplicateId ghes.id) _ none).0

-- an accepted source that is enabled is not refused as such
pub not_refused : (before : List Source) (ghes : Ghes) → source_refusal before (sources.Ghes ghes) ≡ None → ghes.enabled ≡ true → first_of (enabled_rows (length (enabled before)) ghes) ≡ None
not_refused before ghes none on =
    sym (ap (λ b. first_of (cond b (enabled_rows (length (enabled before)) ghes) [])) on) ∙ (none_of (has_id ghes.id before) (DuplicateId ghes.id) _ none).1

-- before an accepted source that is enabled there are fewer than 64
pub few_enabled : (before : List Source) (ghes : Ghes) → source_refusal before (sources.Ghes ghes) ≡ None → ghes.enabled ≡ true → length (enabled before) < 64
few_enabled before ghes none on = below_of (length (enabled before)) (none_of (nat_le 64 (length (enabled before))) TooMany _ (not_refused before ghes none on)).0

-- The sources of an accepted table: ids of their own, few enabled ones, and each of these sound.
use Rattle.std.proofs.Common.{◌≡◌, ◌≤◌, ℕ, ◌+◌, ◌==◌, ◌||◌, nat_eq, nat_lt, nat_le, Bool, true, false, cond, List, [], ◌∷◌, ◌++◌, map, length, refl, sym, ap, subst, ◌∙◌, arith, append_assoc, append-nil, Option, Some, None, is_some, Ok}
use Rattle.std.specs.Cmp.{IsEquivalence}
use Rattle.std.specs.List.{list_any, IsDistinct, AllByRecursion}
use Rattle.std.specs.Option.{IfSome}
use Rattle.std.proofs.lemmas.Bool.{eqb-true, eq-eqb}
use Rattle.std.proofs.lemmas.Bool.Decides.{nat_tests}
use Rattle.std.proofs.lemmas.List.{map-append}
use Rattle.std.proofs.lemmas.Map.Keys.{IsDistinct-push}
use Rattle.apei_base.specs.Refusal.{first_of}
use Rattle.apei_base.specs.Region.{gas_refusal}
use Rattle.apei_base.specs.declared.gas.GasError.{GasError}
use Rattle.apei_hest.specs.Refusal.{generic, enabled, ack_refusal, enabled_rows, source_refusal, AreAccepted}
use Rattle.apei_hest.specs.Hest.{Judges}
use Rattle.apei_hest.specs.Sound.{ids_of, IsSound}
use Rattle.apei_hest.specs.declared.error.HestError.TheVariants.{BlockLength, TooMany}
use Rattle.apei_hest.specs.declared.source.Ack2.{Ack2}
use Rattle.apei_hest.specs.declared.source.Ghes.{Ghes}
use Rattle.apei_hest.specs.declared.source.Source.{Source}
use Rattle.apei_hest.specs.declared.source.Source.TheVariants as sources
use Rattle.apei_hest.proofs.KnownLemmas.{generic_push, enabled_push, length_enabled_push}
use Rattle.apei_hest.proofs.LawLemmas.{hest_of_judgement, above}
use Rattle.apei_hest.proofs.RefusalLemmas.{none_of, new_id, not_refused, few_enabled}

number_equality : IsEquivalence (λ (x y : ℕ). x == y)
number_equality = record {
  refl = λ x. eq-eqb x x refl;
  symm = λ x y. grind (arith, nat_tests);
  congr = λ x y z e. ap (λ n. n == z) (eqb-true x y e);
}

-- an id is one of the ids where a source has it
any_id : (id : ℕ) (all : List Ghes) → list_any (λ (x : ℕ). id == x) (map (λ ghes. ghes.id) all) ≡ list_any (λ ghes. ghes.id == id) all
any_id id [] = refl
any_id id (ghes ∷ all) =
    let same : (id == ghes.id) ≡ (ghes.id == id) = grind (arith, nat_tests) in
    ap (λ b. b || list_any (λ (x : ℕ). id == x) (map (λ (g : Ghes). g.id) all)) same ∙ ap (λ b. (ghes.id == id) || b) (any_id id all)

-- the ids with one more generic source
ids_push : (found : List Source) (ghes : Ghes) → ids_of (found ++ sources.Ghes ghes ∷ []) ≡ ids_of found ++ ghes.id ∷ []
ids_push found ghes =
    ap (map (λ (g : Ghes). g.id)) (generic_push found (sources.Ghes ghes)) ∙ map-append (λ (g : Ghes). g.id) (generic found) (ghes ∷ [])

ids_skip : (found : List Source) (kind id at size : ℕ) → ids_of (found ++ sources.Skipped kind id at size ∷ []) ≡ ids_of found
ids_skip found kind id at size =
    ap (map (λ (g : Ghes). g.id)) (generic_push found (sources.Skipped kind id at size) ∙ append-nil (generic found))

-- one accepted source more keeps the ids apart
distinct_push : (found : List Source) (source : Source) → source_refusal found source ≡ None → IsDistinct nat_eq (ids_of found) → IsDistinct nat_eq (ids_of (found ++ source ∷ []))
distinct_push found (sources.Skipped kind id at size) none apart = subst (IsDistinct nat_eq) (sym (ids_skip found kind id at size)) apart
distinct_push found (sources.Ghes ghes) none apart =
    subst (IsDistinct nat_eq) (sym (ids_push found ghes))
    (IsDistinct-push number_equality (ids_of found) ghes.id apart (any_id ghes.id (generic found) ∙ new_id found ghes none))

-- the ids of accepted sources are pairwise different
distinct_from : (before found : List Source) → AreAccepted before found → IsDistinct nat_eq (ids_of before) → IsDistinct nat_eq (ids_of (before ++ found))
distinct_from before [] all apart = subst (λ xs. IsDistinct nat_eq (ids_of xs)) (sym (append-nil before)) apart
distinct_from before (source ∷ found) all apart =
    subst (λ xs. IsDistinct nat_eq (ids_of xs)) (append_assoc before (source ∷ []) found)
    (distinct_from (before ++ source ∷ []) found all.1 (distinct_push before source all.0 apart))

pub accepted_distinct : (found : List Source) → AreAccepted [] found → IsDistinct nat_eq (ids_of found)
unfolding IsDistinct
accepted_distinct found all = distinct_from [] found all tt

-- one accepted source more
few_push : (found : List Source) (source : Source) → source_refusal found source ≡ None → length (enabled found) ≤ 64 → length (enabled (found ++ source ∷ [])) ≤ 64
few_push found (sources.Skipped kind id at size) none few =
    let same : enabled (found ++ sources.Skipped kind id at size ∷ []) ≡ enabled found =
    enabled_push found (sources.Skipped kind id at size) ∙ append-nil (enabled found) in
    omega (arith, ap length same)
few_push found (sources.Ghes ghes) none few =
    let P : Bool → Type 0 = λ b. ghes.enabled ≡ b → length (enabled found) + cond b 1 0 ≤ 64 in
    let within : P ghes.enabled = elim ghes.enabled as P [
      | true ↦ λ on. let more = few_enabled found ghes none on in omega arith
      | false ↦ λ off. omega arith
    ] in
    let size = length_enabled_push found ghes in
    let all = within refl in
    omega arith

few_from : (before found : List Source) → AreAccepted before found → length (enabled before) ≤ 64 → length (enabled (before ++ found)) ≤ 64
few_from before [] all few = subst (λ xs. length (enabled xs) ≤ 64) (sym (append-nil before)) few
few_from before (source ∷ found) all few =
    subst (λ xs. length (enabled xs) ≤ 64) (append_assoc before (source ∷ []) found)
    (few_from (before ++ source ∷ []) found all.1 (few_push before source all.0 few))

-- at most 64 accepted sources are enabled
pub accepted_few : (found : List Source) → AreAccepted [] found → length (enabled found) ≤ 64
accepted_few found all = few_from [] found all (omega arith)

-- a register with no reason is not refused
good_register : (why : Option GasError) → is_some why ≡ false → why ≡ None
good_register None e = refl
good_register (Some why) e = absurd (cc e)

good_ack : (ack : Option Ack2) → ack_refusal ack ≡ None → IfSome ack (λ a. gas_refusal a.register ≡ None)
good_ack None e = tt
good_ack (Some ack) e = e

-- an enabled source that is not refused is sound
sound_of : (before : ℕ) (ghes : Ghes) → first_of (enabled_rows before ghes) ≡ None → IsSound ghes
sound_of before ghes e =
    let status = none_of (is_some (gas_refusal ghes.status)) _ _ (none_of (nat_le 64 before) TooMany _ e).1 in
    let ack = none_of (is_some (ack_refusal ghes.ack)) _ _ status.1 in
    record {
      status = good_register (gas_refusal ghes.status) status.0;
      ack = good_ack ghes.ack (good_register (ack_refusal ghes.ack) ack.0);
      room = above ghes.block_length 20 (none_of (nat_lt ghes.block_length 20) (BlockLength ghes.id) None ack.1).0;
    }

-- each enabled source that is accepted is sound
pub accepted_sound : (before found : List Source) → AreAccepted before found → AllByRecursion IsSound (enabled found)
accepted_sound before [] all = tt
accepted_sound before (sources.Skipped kind id at size ∷ found) all = accepted_sound (before ++ sources.Skipped kind id at size ∷ []) found all.1
accepted_sound before (sources.Ghes ghes ∷ found) all =
    let later = accepted_sound (before ++ sources.Ghes ghes ∷ []) found all.1 in
    let P : Bool → Type 0 = λ b. ghes.enabled ≡ b → AllByRecursion IsSound (cond b (ghes ∷ enabled found) (enabled found)) in
    let here : P ghes.enabled = elim ghes.enabled as P [
      | true ↦ λ on. (sound_of (length (enabled before)) ghes (not_refused before ghes all.0 on), later)
      | false ↦ λ off. later
    ] in
    here refl

pub judged_distinct : (bytes : List ℕ) (found : List Source) → Judges bytes (Ok found) → IsDistinct nat_eq (ids_of found)
judged_distinct bytes found j = accepted_distinct found (hest_of_judgement bytes found j).accepted

pub judged_few : (bytes : List ℕ) (found : List Source) → Judges bytes (Ok found) → length (enabled found) ≤ 64
judged_few bytes found j = accepted_few found (hest_of_judgement bytes found j).accepted

pub judged_sound : (bytes : List ℕ) (found : List Source) → Judges bytes (Ok found) → AllByRecursion IsSound (enabled found)
judged_sound bytes found j = accepted_sound [] found (hest_of_judgement bytes found j).accepted

-- What is known of sources, and of one more.
use Rattle.std.proofs.Common.{◌≡◌, ℕ, ◌+◌, ◌==◌, ◌||◌, Bool, true, false, cond, List, [], ◌∷◌, ◌++◌, length, refl, sym, ap, ◌∙◌, arith, append-nil}
use Rattle.std.specs.List.{filter, list_any}
use Rattle.std.specs.Ordering.{nat_cmp, is_eq}
use Rattle.std.specs.BTreeSet.{BTreeSet, contains, Updates}
use Rattle.std.proofs.lemmas.Bool.Decides.{nat_tests}
use Rattle.std.proofs.lemmas.List.{length-append}
use Rattle.std.proofs.lemmas.List.Concat.{flat_map-append}
use Rattle.std.proofs.lemmas.List.Elements.{filter-append}
use Rattle.std.proofs.lemmas.List.Folds.{list_any-append}
use Rattle.apei_hest.specs.Refusal.{ghes_in, generic, enabled, has_id}
use Rattle.apei_hest.specs.Admitted.{Knows}
use Rattle.apei_hest.specs.declared.source.Ghes.{Ghes}
use Rattle.apei_hest.specs.declared.source.Source.{Source}
use Rattle.apei_hest.specs.declared.source.Source.TheVariants as sources

-- the generic sources of sources, and of one more
pub generic_push : (found : List Source) (source : Source) → generic (found ++ source ∷ []) ≡ generic found ++ ghes_in source
generic_push found (sources.Skipped kind id at length) = flat_map-append ghes_in found (sources.Skipped kind id at length ∷ [])
generic_push found (sources.Ghes ghes) = flat_map-append ghes_in found (sources.Ghes ghes ∷ [])

-- whether one of them has an id
pub has_id_push : (id : ℕ) (found : List Source) (source : Source) → has_id id (found ++ source ∷ []) ≡ (has_id id found || list_any (λ ghes. ghes.id == id) (ghes_in source))
has_id_push id found source =
    ap (list_any (λ (ghes : Ghes). ghes.id == id)) (generic_push found source)
    ∙ list_any-append (λ (ghes : Ghes). ghes.id == id) (generic found) (ghes_in source)

-- the enabled ones
pub enabled_push : (found : List Source) (source : Source) → enabled (found ++ source ∷ []) ≡ enabled found ++ filter (λ ghes. ghes.enabled) (ghes_in source)
enabled_push found source =
    ap (filter (λ (ghes : Ghes). ghes.enabled)) (generic_push found source)
    ∙ filter-append (λ (ghes : Ghes). ghes.enabled) (generic found) (ghes_in source)

or_false : (b : Bool) → (b || false) ≡ b
or_false true = refl
or_false false = refl

-- a skipped source has no id, and is not counted
pub knows_skipped : (ids : BTreeSet ℕ) (n : ℕ) (found : List Source) (kind id at size : ℕ) → Knows ids n found → Knows ids n (found ++ sources.Skipped kind id at size ∷ [])
knows_skipped ids n found kind id at size k =
    let source = sources.Skipped kind id at size in
    let same : enabled (found ++ source ∷ []) ≡ enabled found = enabled_push found source ∙ append-nil (enabled found) in
    record {
      ids_of = λ q. k.ids_of q ∙ sym (has_id_push q found source ∙ or_false (has_id q found));
      count_of = k.count_of ∙ ap length (sym same);
    }

same_id : (k q : ℕ) (b : Bool) → cond (is_eq (nat_cmp k q)) true b ≡ (b || ((k == q) || false))
same_id k q true = grind (arith, nat_tests)
same_id k q false = grind (arith, nat_tests)

length_if : (ghes : Ghes) (b : Bool) → length (cond b (ghes ∷ []) []) ≡ cond b 1 0
length_if ghes true = refl
length_if ghes false = refl

-- how many enabled ones there are with one generic source more
pub length_enabled_push : (found : List Source) (ghes : Ghes) → length (enabled (found ++ sources.Ghes ghes ∷ [])) ≡ length (enabled found) + cond ghes.enabled 1 0
length_enabled_push found ghes =
    ap length (enabled_push found (sources.Ghes ghes)) ∙ length-append (enabled found) (cond ghes.enabled (ghes ∷ []) [])
    ∙ ap (λ n. length (enabled found) + n) (length_if ghes ghes.enabled)

-- a generic source has its id, and is counted where it is enabled
pub knows_more : (ids ids' : BTreeSet ℕ) (n : ℕ) (found : List Source) (ghes : Ghes) → Updates nat_cmp ids ids' ghes.id true → Knows ids n found → Knows ids' (n + cond ghes.enabled 1 0) (found ++ sources.Ghes ghes ∷ [])
knows_more ids ids' n found ghes u k = record {
  ids_of = λ q. u.0 q ∙ ap (λ b. cond (is_eq (nat_cmp ghes.id q)) true b) (k.ids_of q) ∙ same_id ghes.id q (has_id q found) ∙ sym (has_id_push q found (sources.Ghes ghes));
  count_of = ap (λ m. m + cond ghes.enabled 1 0) k.count_of ∙ sym (length_enabled_push found ghes);
}

-- the same, told of equal parts
pub knows_equal : (ids ids' : BTreeSet ℕ) (n n' : ℕ) (found found' : List Source) → ids' ≡ ids → n' ≡ n → found' ≡ found → Knows ids n found → Knows ids' n' found'
knows_equal ids ids' n n' found found' same_ids same_n same_found k = record {
  ids_of = λ q. ap (λ s. contains nat_cmp s q) same_ids ∙ k.ids_of q ∙ ap (has_id q) (sym same_found);
  count_of = same_n ∙ k.count_of ∙ ap (λ xs. length (enabled xs)) (sym same_found);
}

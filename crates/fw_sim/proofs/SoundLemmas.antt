-- What holds of each element, and of one more.
use Rattle.std.proofs.Common.{◌≡◌, ◌<◌, ◌+◌, ℕ, zero, suc, List, [], ◌∷◌, ◌++◌, length, get_or, refl, sym, ap, ◌∙◌, subst, arith, ⊎_elim, length-append}
use Rattle.std.proofs.lemmas.Bool.{cases_lt}
use Rattle.std.proofs.lemmas.List.{get_or_append_left}
use Rattle.apei_hest.specs.declared.source.Ghes.{Ghes}
use Rattle.fw_map.specs.declared.run.Run.{Run}
use Rattle.fw_sim.specs.Platform.{IsPortAt}
use Rattle.fw_port.specs.declared.port.SourcePort.{SourcePort}
use Rattle.std.specs.List.{AllByRecursion}

-- what holds of each element holds of one that is there
pub all_at : {X : Type 0} (P : X → Type 0) (xs : List X) (i : ℕ) (none : X) → AllByRecursion P xs → i < length xs → P (get_or xs i none)
all_at P [] i none all below = absurd (omega (arith, below))
all_at P (x ∷ xs) zero none all below = all.0
all_at P (x ∷ xs) (suc i) none all below = all_at P xs i none all.1 (omega (arith, below))

-- an element that is there does not depend on what another one would be
pub any_none : {X : Type 0} (xs : List X) (i : ℕ) (one other : X) → i < length xs → get_or xs i one ≡ get_or xs i other
any_none [] i one other below = absurd (omega (arith, below))
any_none (x ∷ xs) zero one other below = refl
any_none (x ∷ xs) (suc i) one other below = any_none xs i one other (omega (arith, below))

-- the element behind a list
get_or-last : {X : Type 0} (xs : List X) (x none : X) (n : ℕ) → length xs ≡ n → get_or (xs ++ x ∷ []) n none ≡ x
get_or-last [] x none n long = subst (λ k. get_or (x ∷ []) k none ≡ x) long refl
get_or-last (y ∷ ys) x none zero long = absurd (omega (arith, long))
get_or-last (y ∷ ys) x none (suc n) long = get_or-last ys x none n (omega (arith, long))

-- one port more, of the next source
pub ports_more : (ports more : List SourcePort) (port : SourcePort) (sources : List Ghes) (areas : List Run) (n : ℕ) → length ports ≡ n → ((k : ℕ) (none : SourcePort) → k < n → IsPortAt sources areas k (get_or ports k none)) → IsPortAt sources areas n port → more ≡ ports ++ port ∷ [] → (length more ≡ n + 1) × ((k : ℕ) (none : SourcePort) → k < n + 1 → IsPortAt sources areas k (get_or more k none))
ports_more ports more port sources areas n long each last is = (
  ap (λ (ps : List SourcePort). length ps) is ∙ length-append ports (port ∷ []) ∙ ap (λ m. m + 1) long,
  λ k none below.
      ⊎_elim
      (λ earlier.
      let here : get_or ports k none ≡ get_or more k none =
      sym (ap (λ (ps : List SourcePort). get_or ps k none) is ∙ get_or_append_left ports (port ∷ []) none k (omega (arith, earlier, long))) in
      subst (IsPortAt sources areas k) here (each k none earlier))
      (λ past.
      let now : n ≡ k = omega (arith, past, below) in
      let here : port ≡ get_or more k none =
      sym (ap (λ (ps : List SourcePort). get_or ps k none) is ∙ ap (λ m. get_or (ports ++ port ∷ []) m none) (sym now) ∙ get_or-last ports port none n long) in
      subst (IsPortAt sources areas k) here (subst (λ m. IsPortAt sources areas m port) now last))
      (cases_lt k n),
)

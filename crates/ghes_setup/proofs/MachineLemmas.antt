-- What holds of the machine of accepted tables and allowed lines.
use Rattle.std.proofs.Common.{◌≡◌, ◌<◌, ◌+◌, ℕ, zero, suc, List, [], ◌∷◌, ◌++◌, length, get_or, refl, sym, ap, ◌∙◌, subst, arith, ⊎_elim, length-append}
use Rattle.std.proofs.lemmas.Bool.{cases_lt}
use Rattle.std.proofs.lemmas.List.{get_or_append_left}
use Rattle.std.proofs.lemmas.Nat.{mod_below}
use Rattle.std.specs.List.{AllByRecursion}
use Rattle.apei_hest.specs.Sound.{IsSound}
use Rattle.apei_hest.specs.declared.source.Ghes.{Ghes}
use Rattle.ghes_lines.specs.Machine.{FitsSource}
use Rattle.ghes_lines.specs.declared.machine.Source.{Source}
use Rattle.ghes_script.specs.Sofar.{start}
use Rattle.ghes_script.specs.declared.line.Line.{Line}
use Rattle.ghes_setup.specs.Machine.{AreAllowedFor, IsSourceOf, AreSourcesOf, setup_for}
use Rattle.ghes_setup.specs.Settings.{settings_of, contexts_of, server_of}
use Rattle.ghes_setup.proofs.SaidLemmas.{settings_allowed, some_context, server_below}

-- what holds of each element holds of one that is there
pub all_at : {X : Type 0} (P : X → Type 0) (xs : List X) (i : ℕ) (none : X) → AllByRecursion P xs → i < length xs → P (get_or xs i none)
all_at P [] i none all below = absurd (omega (arith, below))
all_at P (x ∷ xs) zero none all below = all.0
all_at P (x ∷ xs) (suc i) none all below = all_at P xs i none all.1 (omega (arith, below))

-- an element that is there does not depend on what another one would be
pub any_none : {X : Type 0} (xs : List X) (i : ℕ) (one other : X) → i < length xs → get_or xs i one ≡ get_or xs i other
any_none [] i one other below = absurd (omega (arith, below))
any_none (x ∷ xs) zero one other below = refl
any_none (x ∷ xs) (suc i) one other below = any_none xs i one other (omega (arith, below))

-- what holds of each element by its place holds of all
pub all_by : {X : Type 0} (P : X → Type 0) (xs : List X) → ((k : ℕ) (none : X) → k < length xs → P (get_or xs k none)) → AllByRecursion P xs
all_by P [] each = tt
all_by P (x ∷ xs) each = (each zero x (omega arith), all_by P xs (λ k none below. each (suc k) none (omega (arith, below))))

-- the element behind a list
get_or-last : {X : Type 0} (xs : List X) (x none : X) (n : ℕ) → length xs ≡ n → get_or (xs ++ x ∷ []) n none ≡ x
get_or-last [] x none n long = subst (λ k. get_or (x ∷ []) k none ≡ x) long refl
get_or-last (y ∷ ys) x none zero long = absurd (omega (arith, long))
get_or-last (y ∷ ys) x none (suc n) long = get_or-last ys x none n (omega (arith, long))

-- one element more, of which the same holds by its place
pub one_more : {X : Type 0} (P : ℕ → X → Type 0) (xs more : List X) (x : X) (n : ℕ) → length xs ≡ n → ((k : ℕ) (none : X) → k < n → P k (get_or xs k none)) → P n x → more ≡ xs ++ x ∷ [] → (length more ≡ n + 1) × ((k : ℕ) (none : X) → k < n + 1 → P k (get_or more k none))
one_more {X} P xs more x n long each last is = (
  ap (λ (ys : List X). length ys) is ∙ length-append xs (x ∷ []) ∙ ap (λ m. m + 1) long,
  λ k none below.
      ⊎_elim
      (λ earlier.
      let here : get_or xs k none ≡ get_or more k none =
      sym (ap (λ (ys : List X). get_or ys k none) is ∙ get_or_append_left xs (x ∷ []) none k (omega (arith, earlier, long))) in
      subst (P k) here (each k none earlier))
      (λ past.
      let now : n ≡ k = omega (arith, past, below) in
      let here : x ≡ get_or more k none =
      sym (ap (λ (ys : List X). get_or ys k none) is ∙ ap (λ m. get_or (xs ++ x ∷ []) m none) (sym now) ∙ get_or-last xs x none n long) in
      subst (P k) here (subst (λ m. P m x) now last))
      (cases_lt k n),
)

-- a source has room for a header and no more than its limit, and a context
source_fits : (settings : List Line) (s : ℕ) (ghes : Ghes) (source : Source) → IsSound ghes → IsSourceOf settings s ghes source → server_of settings s < contexts_of settings → FitsSource (contexts_of settings) 65536 source
source_fits settings s ghes source sound is below =
    let limit_is = ap (λ receive. receive.limit) is.receive in
    record {
      header = omega (arith, limit_is, sound.room);
      limit = omega (arith, limit_is);
      server = subst (λ n. n < contexts_of settings) (sym is.server) below;
    }

-- there is a context, and each source has one
pub some_of : (found : List Ghes) (lines : List Line) → AreAllowedFor found lines → 0 < contexts_of (settings_of lines)
some_of found lines allowed = some_context (setup_for found allowed.0) start (settings_of lines) (settings_allowed (setup_for found allowed.0) start lines allowed.1) (omega arith)

served_of : (found : List Ghes) (lines : List Line) (s : ℕ) → AreAllowedFor found lines → server_of (settings_of lines) s < contexts_of (settings_of lines)
served_of found lines s allowed =
    server_below (setup_for found allowed.0) start (settings_of lines) s _ (settings_allowed (setup_for found allowed.0) start lines allowed.1)
    (mod_below s (contexts_of (settings_of lines)) (some_of found lines allowed))

-- all sources do
sources_fit : (given : List Ghes) (found : List Ghes) (lines : List Line) (sources : List Source) → AreAllowedFor given lines → AllByRecursion IsSound found → AreSourcesOf (settings_of lines) found sources → AllByRecursion (FitsSource (contexts_of (settings_of lines)) 65536) sources
sources_fit given [] lines sources allowed sound are = all_by _ sources (λ k none below. absurd (omega (arith, below, are.as_many)))
sources_fit given (ghes ∷ found) lines sources allowed sound are =
    all_by _ sources (λ k none below.
    source_fits (settings_of lines) k (get_or (ghes ∷ found) k ghes) (get_or sources k none)
    (all_at IsSound (ghes ∷ found) k ghes sound (omega (arith, below, are.as_many))) (are.each k ghes none below) (served_of given lines k allowed))

pub all_fit : (found : List Ghes) (lines : List Line) (sources : List Source) → AreAllowedFor found lines → AllByRecursion IsSound found → AreSourcesOf (settings_of lines) found sources → AllByRecursion (FitsSource (contexts_of (settings_of lines)) 65536) sources
all_fit found lines sources allowed sound are = sources_fit found found lines sources allowed sound are

-- What a walk over the structures of a table says of the table.
use Rattle.std.proofs.Common.{◌≡◌, ◌≤◌, ◌<◌, ℕ, ◌+◌, ◌==◌, true, false, cond, List, [], length, drop, nat_lt, codes, sym, ap, subst, ◌∙◌, arith, Some, None, Result, Ok, Err}
use Rattle.std.specs.Option.{option_or, option_map}
use Rattle.std.proofs.lemmas.Bool.{le-ltb}
use Rattle.std.proofs.lemmas.Bool.Decides.{nat_tests}
use Rattle.apei_base.specs.Cut.{joined}
use Rattle.apei_base.specs.Number.{number_at}
use Rattle.apei_base.specs.Table.{sdt_refusal}
use Rattle.apei_hest.specs.Refusal.{AreAccepted}
use Rattle.apei_hest.specs.Hest.{refusal_at, counted, refused, answer_at, Walks, front_refusal, JudgedBy, Judges}
use Rattle.apei_hest.specs.Admitted.{IsWalked, StopsWith}
use Rattle.apei_hest.specs.declared.error.HestError.{HestError}
use Rattle.apei_hest.specs.declared.error.HestError.TheVariants.{Table, Truncated, CountMismatch}
use Rattle.apei_hest.specs.declared.source.Source.{Source}

-- a table that has a count
pub front_accepted : (bytes : List ℕ) → sdt_refusal (codes "HEST") bytes ≡ None → 40 ≤ length bytes → front_refusal bytes ≡ None
front_accepted bytes table long =
    ap (λ o. option_or (option_map Table o) (cond (nat_lt (length bytes) 40) (Some (Truncated 36)) None)) table
    ∙ ap (λ b. cond b (Some (Truncated 36)) None) (le-ltb (length bytes) 40 long)

-- its structures judge it
pub judged_by_walk : (bytes : List ℕ) (answer : Result (List Source) HestError) → front_refusal bytes ≡ None → Walks (number_at 36 4 bytes) (drop 40 bytes) answer → Judges bytes answer
judged_by_walk bytes answer front walks = subst (λ o. JudgedBy o bytes answer) (sym front) walks

-- the rest that is not empty decides by its refusal
pub answer_of_refusal : (said : ℕ) (before : List Source) (at : ℕ) (rest : List ℕ) (error : HestError) → 0 < length rest → refusal_at before at rest ≡ Some error → answer_at said before at rest ≡ Some (Err error)
answer_of_refusal said before at rest error left e =
    let more : (length rest == 0) ≡ false = grind (arith, nat_tests) in
    ap (λ b. cond b (Some (counted said before)) (refused (refusal_at before at rest))) more ∙ ap refused e

-- a walk that stops
pub walks_stopped : (said : ℕ) (bytes : List ℕ) (error : HestError) → StopsWith bytes error → Walks said bytes (Err error)
walks_stopped said bytes error s =
    let at = 40 + length (joined s.structures) in (
      s.structures,
      s.rest,
      s.walked.cut,
      subst (AreAccepted []) s.walked.sources s.walked.accepted,
      ap (λ found. answer_at said found at s.rest) (sym s.walked.sources) ∙ answer_of_refusal said s.before at s.rest error s.left s.refused,
    )

-- a walk up to the end
pub walks_whole : (said : ℕ) (bytes : List ℕ) (structures : List (List ℕ)) (found : List Source) → IsWalked bytes structures [] found → Walks said bytes (counted said found)
walks_whole said bytes structures found w = (
  structures,
  [],
  w.cut,
  subst (AreAccepted []) w.sources w.accepted,
  ap (λ xs. Some (counted said xs)) (sym w.sources),
)

-- the count that is right, or another one
pub counted_right : (said : ℕ) (found : List Source) → said ≡ length found → counted said found ≡ Ok found
counted_right said found e = let same : (said == length found) ≡ true = grind (arith, nat_tests) in ap (λ b. cond b (Ok found) (Err (CountMismatch said (length found)))) same

pub counted_wrong : (said : ℕ) (found : List Source) → (said ≡ length found → ⊥) → counted said found ≡ Err (CountMismatch said (length found))
counted_wrong said found e = let other : (said == length found) ≡ false = grind (arith, nat_tests) in ap (λ b. cond b (Ok found) (Err (CountMismatch said (length found)))) other

-- a table whose walk stops
pub judges_stopped : (bytes : List ℕ) (error : HestError) → front_refusal bytes ≡ None → StopsWith (drop 40 bytes) error → Judges bytes (Err error)
judges_stopped bytes error front stops = judged_by_walk bytes (Err error) front (walks_stopped (number_at 36 4 bytes) (drop 40 bytes) error stops)

-- a table whose walk ends
pub judges_whole : (bytes : List ℕ) (structures : List (List ℕ)) (found : List Source) → front_refusal bytes ≡ None → IsWalked (drop 40 bytes) structures [] found → Judges bytes (counted (number_at 36 4 bytes) found)
judges_whole bytes structures found front w =
    judged_by_walk bytes (counted (number_at 36 4 bytes) found) front (walks_whole (number_at 36 4 bytes) (drop 40 bytes) structures found w)

-- with the right count
pub judges_accepted : (bytes : List ℕ) (structures : List (List ℕ)) (found : List Source) → front_refusal bytes ≡ None → IsWalked (drop 40 bytes) structures [] found → number_at 36 4 bytes ≡ length found → Judges bytes (Ok found)
judges_accepted bytes structures found front w same =
    subst (Judges bytes) (counted_right (number_at 36 4 bytes) found same) (judges_whole bytes structures found front w)

-- with another count
pub judges_miscounted : (bytes : List ℕ) (structures : List (List ℕ)) (found : List Source) → front_refusal bytes ≡ None → IsWalked (drop 40 bytes) structures [] found → (number_at 36 4 bytes ≡ length found → ⊥) → Judges bytes (Err (CountMismatch (number_at 36 4 bytes) (length found)))
judges_miscounted bytes structures found front w other =
    subst (Judges bytes) (counted_wrong (number_at 36 4 bytes) found other) (judges_whole bytes structures found front w)

-- The exchange that adds a version keeps the rule of the history.
use Rattle.std.proofs.Common.{◌≡◌, ℕ, ◌+◌, ◌<◌, ◌==◌, Bool, true, false, List, [], ◌∷◌, ◌++◌, length, refl, ap, sym, subst, arith, inl, length-append, None}
use Rattle.std.proofs.lemmas.List.{append-nil}
use Rattle.std.proofs.lemmas.Bool.Decides.{nat_tests}
use prog.Atomic.{either}
use Rattle.logbook.specs.Pages.{Cell, cell, keeps, no_nib, step, Moves, Goes}
use Rattle.ghes_throttle.specs.declared.report.Report.{Report}
use Rattle.ghes_throttle.specs.declared.report.Version.{Version}
use Rattle.ghes_throttle.specs.History.{IsKept, Adds, newest_after}

abbrev pub shown : List Version → List Version
shown log = []

abbrev pub moved : List Version → List Version → ℕ → Type 0
moved xs ys n = Unit {0}

-- the newest version is the last one
pub newest_last : (list : List Report) (log : List Version) (v : Version) → newest_after list (log ++ v ∷ []) ≡ v.reports
newest_last list [] v = refl
newest_last list (w ∷ log) v = newest_last w.reports log v

pub adds_goes : (log before : List Version) (e : Version) (old : ℕ) (b : Bool) → (length log == old) ≡ b
    → Goes IsKept shown moved 0 (before, (no_nib, None)) (λ n. either (n == old) (old + 1) n) (Adds (step 0 old (old + 1) e) (before, (no_nib, None))) ((length log, true) ∷ (0, true) ∷ []) log
adds_goes log before e old true is =
    let here : length log ≡ old = grind (arith, nat_tests) in
    let n : either (length log == old) (old + 1) (length log) ≡ length (log ++ e ∷ []) = rw is (omega (arith, length-append log (e ∷ []))) in (
      keeps,
      e ∷ [],
      None,
      tt,
      ap (λ (k : ℕ). (k, true) ∷ (0, true) ∷ []) n,
      inl (refl, refl),
      rw is (omega (arith, length-append log (e ∷ [])), newest_last [] log e),
    )
adds_goes log before e old false is =
    let all : log ++ [] ≡ log = append-nil log in
    let n : either (length log == old) (old + 1) (length log) ≡ length (log ++ []) = rw is (ap length (sym all)) in (
      keeps,
      [],
      None,
      tt,
      ap (λ (k : ℕ). (k, true) ∷ (0, true) ∷ []) n,
      inl (refl, refl),
      rw is tt,
    )

-- whatever the history is, the exchange adds the version where its number is the one expected
pub adds_moves : (before : List Version) (e : Version) (old : ℕ)
    → Moves IsKept shown moved 0 (before, (no_nib, None)) (λ n. either (n == old) (old + 1) n) (Adds (step 0 old (old + 1) e) (before, (no_nib, None)))
adds_moves before e old cs log kept pre away =
    let P : List Cell → Type 0 = λ c. (0 < length c) × ((cell c 0).1 ≡ true) × Goes IsKept shown moved 0 (before, (no_nib, None)) (λ n. either (n == old) (old + 1) n) (Adds (step 0 old (old + 1) e) (before, (no_nib, None))) c log in
    subst P (sym kept) (omega arith, refl, adds_goes log before e old (length log == old) refl)

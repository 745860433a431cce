-- What looks answer, beside the list of the reports.
use Rattle.std.specs.Prelude.{ℕ, ◌≡◌, ◌≤◌, List, [], ◌∷◌, length, take, Option}
use mathlib.Core.List.{IsPrefix}
use Rattle.ghes_throttle.specs.Shown.{Book}
use Rattle.ghes_throttle.specs.declared.report.Report.{Report}
use Rattle.ghes_throttle.specs.Reports.{hit}

-- a reader with what its looks answered
pub record Laned : Type 0 where
  pub book : Book
  pub list : List Report
  pub answers : List (Option ℕ)

-- each answer is the hit of a list that was seen, and each list goes on from the one before
abbrev pub Answers : List ℕ → ℕ → List Report → List (Option ℕ) → List Report → Type 0
Answers bytes now before [] after = IsPrefix before after
Answers bytes now before (a ∷ answers) after = (seen : List Report) × IsPrefix before seen × (a ≡ hit seen bytes now) × Answers bytes now seen answers after

-- each answer is the hit of the first j reports of this list, where j does not fall, and is at least `low` at first
abbrev pub HitsOf : List Report → List ℕ → ℕ → ℕ → List (Option ℕ) → Type 0
HitsOf list bytes now low [] = low ≤ length list
HitsOf list bytes now low (a ∷ answers) = (j : ℕ) × (low ≤ j) × (j ≤ length list) × (a ≡ hit (take j list) bytes now) × HitsOf list bytes now j answers

-- a lane that has looked
pub record Looked (bytes : List ℕ) (now : ℕ) (old new : Laned) : Type 0 where
  pub book : new.book ≡ old.book
  pub answers : Answers bytes now old.list new.answers new.list

-- a lane that has learned this list
pub record Learned (told : List Report) (old new : Laned) : Type 0 where
  pub book : new.book ≡ old.book
  pub answers : new.answers ≡ old.answers
  pub seen : IsPrefix old.list new.list
  pub list : new.list ≡ told

-- a lane that was told this list, and has not looked
abbrev pub IsFresh : Book → List Report → Laned → Type 0
IsFresh book list l = (l.book ≡ book) × (l.list ≡ list) × (l.answers ≡ [])

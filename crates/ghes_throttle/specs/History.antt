-- The history of report lists, and what a mark in it knows.
use Rattle.std.specs.Prelude.{ℕ, ◌≡◌, ◌+◌, ◌==◌, true, List, [], ◌∷◌, length, MatchBool}
use Rattle.logbook.specs.Pages.{Cell, Step, View, Book, Named}
use Rattle.ghes_throttle.specs.declared.report.Report.{Report}
use Rattle.ghes_throttle.specs.declared.report.Version.{Version}

-- what a mark is of: a history, the number of a version there, and the list that this version is (own choice)
pub record Marked : Type 0 where
  pub book : Book
  pub number : ℕ
  pub list : List Report

-- the last of these versions, or the list that is given (own choice)
abbrev pub newest_after : List Report → List Version → List Report
newest_after list [] = list
newest_after list (v ∷ vs) = newest_after v.reports vs

-- the list of the last version, and no report where there is none (own choice)
abbrev pub newest : List Version → List Report
newest log = newest_after [] log

-- the first word is the number of versions. A book has two words, of which this one leaves the second at 0 (own choice)
abbrev pub IsKept : List Cell → List Version → Type 0
IsKept cells log = cells ≡ (length log, true) ∷ (0, true) ∷ []

-- the first word of a history (own choice)
abbrev pub head_of : Book → Named
head_of b = record { tracked = true; key = 0; book = b }

-- where the number was the one expected, the version that is asked for is the last one (own choice)
abbrev pub Adds : Step Version → View Version ℕ → ℕ → View Version ℕ → Type 0
Adds s v found w = MatchBool (found == s.old) ((length w.0 ≡ s.old + 1) × (newest w.0 ≡ s.ask.reports)) (Unit {0})

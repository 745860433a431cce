-- What readers take, what a reader and the writer know, and the rule between them.
use Rattle.std.specs.Prelude.{ℕ, ◌≡◌, ◌+◌, ◌≤◌, nat_le, List, length, if◌then◌else◌, Option, Some, IfSome}
use mathlib.Core.List.{IsPrefix}
use mathlib.Core.Option.{some}
use lib.ListN.{get_elem?}
pub use Rattle.logbook.specs.Pages.{Book}
use Rattle.ghes_throttle.specs.declared.report.Report.{Report}
use Rattle.ghes_throttle.specs.Cache.{put_into}
use Rattle.ghes_throttle.specs.Reports.{IsCacheOf, with_report}
use Rattle.ghes_throttle.specs.declared.shown.Shown.{Shown}
use Rattle.ghes_throttle.specs.declared.shown.Line.{Line}
use Rattle.ghes_throttle.specs.declared.shown.Change.TheVariants.{the_data as Change, Blank, Put}

-- what a reader has seen, or what was told: the list of a writer that is named by its history (own choice)
pub record Known : Type 0 where
  pub book : Book
  pub list : List Report

-- this list of this writer is what is known (own choice)
abbrev pub Knows : Book → List Report → Known → Type 0
Knows book list k = (k.book ≡ book) × (k.list ≡ list)

-- what a writer has: the history that names it, its list, and the longest block of a report in bytes (own choice)
pub record Writing : Type 0 where
  pub book : Book
  pub list : List Report
  pub block_len : ℕ

-- a writer after one report more (own choice)
abbrev pub reported : Writing → List ℕ → ℕ → Writing
reported w bytes time = record { book = w.book; list = with_report w.list bytes time; block_len = w.block_len }

-- a report that fits goes to its place, and its list becomes the one that is shown (own choice)
abbrev pub changed : Shown → Change → Shown
changed s Blank = s
changed s (Put l) =
    if nat_le (length l.bytes.items) s.cache.block_len
    then record { cache = put_into s.cache l.bytes.items l.time l.number; mark = l.mark }
    else s

-- its places are those of its list (own choice)
abbrev pub ShowsItsList : Shown → Type 0
ShowsItsList x = IsCacheOf x.mark.list x.cache

-- s is an earlier state of x, or x (own choice)
pub record Precedes (s x : Shown) : Type 0 where
  pub book : s.mark.book ≡ x.mark.book
  pub block_len : s.cache.block_len ≡ x.cache.block_len
  pub list : IsPrefix s.mark.list x.mark.list

-- the places are those of the list, and what each seat saw is an earlier state (own choice)
pub record IsRuled (x : Shown) (views : List (Option Shown)) : Type 0 where
  pub places : ShowsItsList x
  pub seen : (seat : ℕ) (s : Shown) → get_elem? views seat ≡ some (Some s) → Precedes s x

-- a seat sees y, which goes on from what it saw (own choice)
abbrev pub Sees : Option Shown → Shown → Shown → Option Shown → Type 0
Sees v x y w = (w ≡ Some y) × ShowsItsList y × IfSome v (λ s. Precedes s y)

-- the line has the next report, which fits, with its number and the mark of the list that ends with it (own choice)
pub record Follows (s : Shown) (l : Line) : Type 0 where
  pub book : l.mark.book ≡ s.mark.book
  pub list : l.mark.list ≡ with_report s.mark.list l.bytes.items l.time
  pub number : l.number ≡ length s.mark.list + 1
  pub fits : length l.bytes.items ≤ s.cache.block_len

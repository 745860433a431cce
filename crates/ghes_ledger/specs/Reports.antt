-- The reports, and which of them a look finds.
use Rattle.std.specs.Prelude.{◌≡◌, ◌≤◌, ◌<◌, ℕ, ◌+◌, ◌-◌, ◌&&◌, if◌then◌else◌, nat_lt, nat_le, Bool, true, false, List, [], ◌∷◌, ◌++◌, length, replicate, set, slice_get, Option, Some, None, bytes_eq}
use Rattle.ghes_ledger.specs.declared.ledger.Taken.{Taken}
use Rattle.ghes_ledger.specs.declared.ledger.Taken.TheVariants.{Delivered, Dropped}
use Rattle.ghes_ledger.specs.declared.ledger.Report.{Report}
use Rattle.ghes_ledger.specs.History.{Executed, clock_after}
use Rattle.ghes_ledger.specs.Kept.{told_as, report_at}

-- so many nanoseconds a report is remembered (after Linux 6.1, drivers/acpi/apei/ghes.c)
abbrev pub window : ℕ
window = 10000000000

-- a place of the report cache
pub record Place : Type 0 where
  pub bytes : List ℕ
  pub time : ℕ
  pub number : ℕ

-- A place hits where it has these bytes, and its time is not after now and less than the window before it.
abbrev pub place_hits : List ℕ → ℕ → Option Place → Bool
place_hits bytes now None = false
place_hits bytes now (Some place) = bytes_eq place.bytes bytes && (nat_le place.time now && nat_lt (now - place.time) window)

-- A place has run out where its time is the window or more before now.
abbrev pub has_run_out : ℕ → Option Place → Bool
has_run_out now None = false
has_run_out now (Some place) = nat_le place.time now && nat_le window (now - place.time)

-- a place has no report (own choice)
abbrev pub is_empty : Option Place → Bool
is_empty None = true
is_empty (Some place) = false

-- the number of the lowest place that hits
abbrev pub hit_in : List (Option Place) → List ℕ → ℕ → Option ℕ
hit_in [] bytes now = None
hit_in (None ∷ places) bytes now = hit_in places bytes now
hit_in (Some place ∷ places) bytes now = if place_hits bytes now (Some place) then Some place.number else hit_in places bytes now

-- the lowest place that passes a test, counted from this number on
abbrev pub lowest : (Option Place → Bool) → ℕ → List (Option Place) → Option ℕ
lowest test i [] = None
lowest test i (place ∷ places) = if test place then Some i else lowest test (i + 1) places

-- the time of the report of a place, 0 where it has none (own choice)
abbrev pub time_of : Option Place → ℕ
time_of None = 0
time_of (Some place) = place.time

-- the lowest of the places with the least time, told the best so far, its time, and the number of the first place here
-- (own choice)
abbrev pub oldest : ℕ → ℕ → ℕ → List (Option Place) → ℕ
oldest best time i [] = best
oldest best time i (place ∷ places) = if nat_lt (time_of place) time then oldest i (time_of place) (i + 1) places else oldest best time (i + 1) places

-- a number, if there is one, and else another (own choice)
abbrev pub or_else : Option ℕ → ℕ → ℕ
or_else None other = other
or_else (Some i) other = i

-- the lowest of the places with the least time, counted from 0 on (own choice)
abbrev pub oldest_of : List (Option Place) → ℕ
oldest_of [] = 0
oldest_of (place ∷ places) = oldest 0 (time_of place) 1 places

-- where the next report is put: the lowest empty place, else the lowest that has run out, else the oldest
abbrev pub place_for : ℕ → List (Option Place) → ℕ
place_for now places = or_else (lowest is_empty 0 places) (or_else (lowest (has_run_out now) 0 places) (oldest_of places))

-- the cache after reports with numbers from n on
abbrev pub cache_after : ℕ → List (Option Place) → List Report → List (Option Place)
cache_after n places [] = places
cache_after n places (report ∷ reports) =
    cache_after (n + 1) (set places (place_for report.time places) (Some (record { bytes = report.bytes; time = report.time; number = n }))) reports

-- The report that a look at these reports finds for these bytes at this time, in a cache of so many places. Without a place it finds
-- none.
unfoldable pub hit : ℕ → List Report → List ℕ → ℕ → Option ℕ
hit places reports bytes now = hit_in (cache_after 1 (replicate places None) reports) bytes now

-- the report of this number has these bytes, is not from after this time, and is less than the window old (own choice)
pub record IsFound (reports : List Report) (looked : List ℕ) (now number : ℕ) : Type 0 where
  pub report : Report
  pub at : slice_get reports (number - 1) ≡ Some report
  pub first : 1 ≤ number
  pub bytes : report.bytes ≡ looked
  pub past : report.time ≤ now
  pub recent : now - report.time < window

-- the reports that these taken blocks make at a time (own choice)
abbrev pub reports_at : ℕ → List Taken → List Report
reports_at time [] = []
reports_at time (entry ∷ taken) = report_at time entry ++ reports_at time taken

-- the reports of a history
abbrev pub reports_in : List Executed → List Report
reports_in [] = []
reports_in (line ∷ before) = reports_in before ++ reports_at (clock_after before) line.taken

-- A delivery is told by what a look finds among the reports before it (own choice).
abbrev pub IsTold : ℕ → ℕ → List Report → Taken → Type 0
IsTold places time reports (Delivered source seq bytes reported) = reported ≡ told_as (hit places reports bytes time) (length reports)
IsTold places time reports (Dropped source seq bytes reason) = Unit {0}

-- Each of these taken blocks is told by the reports before it.
abbrev pub AreTold : ℕ → ℕ → List Report → List Taken → Type 0
AreTold places time reports [] = Unit {0}
AreTold places time reports (entry ∷ taken) = IsTold places time reports entry × AreTold places time (reports ++ report_at time entry) taken

-- Stretches of cells by their places among all cells, as a list of runs is put in order.
use Rattle.std.specs.Prelude.{◌≡◌, ◌≤◌, ◌<◌, ◌⊎◌, ℕ, ◌+◌, ◌-◌, ◌^◌, min, Bool, ◌&&◌, nat_lt, nat_le, if◌then◌else◌, List, length, replicate, slice_index_or}
use Rattle.std.specs.List.{list_any, All}
use Rattle.apei_base.specs.declared.region.Space.{Space}
use Rattle.apei_base.specs.declared.region.Space.TheVariants.{Memory, Port}
use Rattle.fw_cells.specs.declared.run.CellRun.{CellRun}
use Rattle.fw_cells.specs.declared.span.Span.{Span}
use Rattle.fw_cells.specs.Runs.{place_of}
use Rattle.fw_cells.specs.Mapping.{is_in_runs}
use Rattle.std.specs.List.Sorted.{IsNonDecreasingBy}

-- a stretch has this place (own choice)
abbrev pub has_place : Span → ℕ → Bool
has_place span place = nat_le span.start place && nat_lt place span.end

-- one of the stretches has this place (own choice)
abbrev pub covers : List Span → ℕ → Bool
covers spans place = list_any (λ span. has_place span place) spans

-- so many cells from an address of a space on, none past the greatest address (own choice)
abbrev pub span_of : Space → ℕ → ℕ → Span
span_of space first count = record {
  start = place_of space first;
  end = place_of space first + min count (2 ^ 64 - first);
}

-- a stretch has a place, and lies in one space (own choice)
pub record IsSpan (span : Span) : Type 0 where
  pub some : span.start < span.end
  pub lies : (span.end ≤ 2 ^ 64) ⊎ ((2 ^ 65 ≤ span.start) × (span.end ≤ 2 ^ 65 + 2 ^ 64))

-- each is a stretch (own choice)
abbrev pub AreSpans : List Span → Type 0
AreSpans spans = All IsSpan spans

-- between one stretch and any later one there is a place of none (own choice)
abbrev pub AreApart : List Span → Type 0
AreApart spans = (i j : ℕ) (none : Span) → i < j → j < length spans
    → (slice_index_or spans i none).end < (slice_index_or spans j none).start

-- the space that a place is in (own choice)
abbrev pub space_at : ℕ → Space
space_at place = if nat_lt place (2 ^ 65) then Memory else Port

-- the address that a place has in its space (own choice)
abbrev pub address_at : ℕ → ℕ
address_at place = if nat_lt place (2 ^ 65) then place else place - 2 ^ 65

-- the cells of a stretch, all 0 (own choice)
abbrev pub run_of : Span → CellRun
run_of span = record {
  space = space_at span.start;
  first = address_at span.start;
  bytes = replicate (span.end - span.start) 0;
}

-- The stretches have the places of exactly the cells in the runs of a list (own choice).
abbrev pub CoversRuns : List Span → List (Space × ℕ × ℕ) → Type 0
CoversRuns spans runs = (space : Space) (address : ℕ) → address < 2 ^ 64
    → covers spans (place_of space address) ≡ is_in_runs runs space address

-- they stand in the order of their first places (own choice)
abbrev pub AreSorted : List Span → Type 0
AreSorted spans = IsNonDecreasingBy (λ (span : Span). span.start) spans

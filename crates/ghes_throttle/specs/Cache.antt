-- The report cache: which of its places answers, and which of them a report takes.
use Rattle.std.specs.Prelude.{ℕ, ◌+◌, ◌-◌, ◌%◌, ◌^◌, ◌&&◌, not, nat_eq, nat_lt, nat_le, Bool, true, false, List, [], ◌∷◌, length, drop, if◌then◌else◌, Option, Some, None, unwrap_or, option_map, slice_set, suc}
use Rattle.byteorder.specs.Endian.{little_number}
use lib.Pointwise.{pointwise}

-- what a place holds: a report, with its time in nanoseconds and its number, if it is full (own choice)
pub record PlaceState : Type 0 where
  pub full : Bool
  pub bytes : List ℕ
  pub time : ℕ
  pub number : ℕ

-- a place, and how many bytes it has room for (own choice)
pub record PlaceBuffer : Type 0 where
  pub held : PlaceState
  pub room : ℕ

-- places from number 0 on, each with room for a block of this length in bytes (own choice)
pub record CacheState : Type 0 where
  pub places : List PlaceState
  pub block_len : ℕ

-- three words of the last 88 bytes of a block, added (own choice)
abbrev pub three_words : List ℕ → ℕ
three_words last = ((little_number 8 last + little_number 8 (drop 24 last)) % 2 ^ 64 + little_number 8 (drop 80 last)) % 2 ^ 64

-- those at the front of its last 88 and of its last 64 bytes, and its last; 2^64 - 1 where it has fewer bytes. It spares comparisons and
-- decides nothing (own choice)
unfoldable pub sample_of : List ℕ → ℕ
sample_of bytes =
    if nat_lt (length bytes) 88 then 2 ^ 64 - 1
    else three_words (drop (length bytes - 88) bytes)

-- a place with no report (own choice)
abbrev pub empty_place : PlaceState
empty_place = record { full = false; bytes = []; time = 0; number = 0 }

-- a place with this report (own choice)
abbrev pub place_with : List ℕ → ℕ → ℕ → PlaceState
place_with bytes time number = record { full = true; bytes = bytes; time = time; number = number }

-- a cache has four places (own choice)
abbrev pub empty_places : List PlaceState
empty_places = empty_place ∷ empty_place ∷ empty_place ∷ empty_place ∷ []

-- how long a report hits, in nanoseconds (after Linux 6.1, drivers/acpi/apei/ghes.c)
abbrev pub window : ℕ
window = 10000000000

-- it has these bytes, all of them, from less than the window before now and not from after now (after Linux 6.1,
-- drivers/acpi/apei/ghes.c; a report from after now: own choice)
abbrev pub agrees : List ℕ → ℕ → PlaceState → Bool
agrees bytes now p = nat_le p.time now && (nat_lt (now - p.time) window && pointwise nat_eq p.bytes bytes)

-- it has a report, of these bytes and from within the window (own choice)
abbrev pub hits : List ℕ → ℕ → PlaceState → Bool
hits bytes now p = p.full && agrees bytes now p

-- the report number of the lowest place that hits, or none (own choice)
unfoldable pub hit_of : List PlaceState → List ℕ → ℕ → Option ℕ
hit_of [] bytes now = None
hit_of (p ∷ places) bytes now = if hits bytes now p then Some p.number else hit_of places bytes now

-- it has no report (own choice)
abbrev pub is_empty : PlaceState → Bool
is_empty p = not p.full

-- its report is from the window before now, or from earlier: it hits no more (own choice)
abbrev pub is_over : ℕ → PlaceState → Bool
is_over now p = nat_le p.time now && nat_le window (now - p.time)

-- none of the places has an earlier time than this one (own choice)
unfoldable pub is_least : List PlaceState → PlaceState → Bool
is_least [] p = true
is_least (q ∷ places) p = if nat_lt q.time p.time then false else is_least places p

-- the number of the lowest place that passes a test, or none (own choice)
unfoldable pub first_at : (PlaceState → Bool) → List PlaceState → Option ℕ
first_at test [] = None
first_at test (p ∷ places) = if test p then Some 0 else option_map suc (first_at test places)

-- the place that a report at this time takes: the lowest empty one, else the lowest that is over, else the lowest of
-- those with the least time (own choice)
unfoldable pub place_for : List PlaceState → ℕ → ℕ
place_for places now =
    unwrap_or (first_at is_empty places) (unwrap_or (first_at (is_over now) places) (unwrap_or (first_at (is_least places) places) 0))

-- the places after a report with its time and its number (own choice)
unfoldable pub with_put : List PlaceState → List ℕ → ℕ → ℕ → List PlaceState
with_put places bytes time number = slice_set places (place_for places time) (place_with bytes time number)

-- the cache after a report with its time and its number (own choice)
abbrev pub put_into : CacheState → List ℕ → ℕ → ℕ → CacheState
put_into c bytes time number = record { places = with_put c.places bytes time number; block_len = c.block_len }

-- Lists of reports: the cache of a list, and which report of a list hits.
use Rattle.std.specs.Prelude.{ℕ, ◌≡◌, ◌+◌, List, [], ◌∷◌, ◌++◌, Option}
use Rattle.ghes_throttle.specs.declared.report.Report.{Report}
use Rattle.ghes_throttle.specs.Cache.{PlaceState, CacheState, empty_places, with_put, hit_of}

-- a report of these bytes at this time
abbrev pub report_of : List ℕ → ℕ → Report
report_of bytes time = record { bytes = bytes; time = time }

-- a list with one report more
abbrev pub with_report : List Report → List ℕ → ℕ → List Report
with_report list bytes time = list ++ report_of bytes time ∷ []

-- the places after these reports, where n reports were put before (own choice)
unfoldable pub places_after : ℕ → List PlaceState → List Report → List PlaceState
places_after n places [] = places
places_after n places (r ∷ list) = places_after (n + 1) (with_put places r.bytes r.time (n + 1)) list

-- the places of a list: those after all its reports, put one after another into empty places; the first report has
-- number 1 (own choice)
abbrev pub cache_of : List Report → List PlaceState
cache_of list = places_after 0 empty_places list

-- the number of the report of a list that hits these bytes now, or none (own choice)
abbrev pub hit : List Report → List ℕ → ℕ → Option ℕ
hit list bytes now = hit_of (cache_of list) bytes now

-- its places are those of this list
abbrev pub IsCacheOf : List Report → CacheState → Type 0
IsCacheOf list cache = cache.places ≡ cache_of list

-- The report cache of a replay: it has the reports of the ledger, and room for each pending packet.
use Rattle.std.specs.Prelude.{◌≤◌, ℕ, List, map, length}
use Rattle.std.specs.List.{AllByRecursion}
use Rattle.ghes_call.specs.Packet.{PacketSeen}
use Rattle.ghes_ledger.specs.declared.ledger.Report.{Report}
use Rattle.ghes_throttle.specs.Cache.{CacheState}
use Rattle.ghes_throttle.specs.Reports.{report_of, IsCacheOf}
use Rattle.ghes_throttle.specs.declared.report.Report.{Report as Put}

-- the reports of a ledger as a cache takes them: their bytes and times, in order (own choice)
abbrev pub puts_of : List Report → List Put
puts_of reports = map (λ r. report_of r.bytes r.time) reports

-- the places of the cache are those of these reports (own choice)
abbrev pub Caches : List Report → CacheState → Type 0
Caches reports cache = IsCacheOf (puts_of reports) cache

-- each of these packets has at most so many bytes (own choice)
abbrev pub AreWithin : ℕ → List PacketSeen → Type 0
AreWithin n packets = AllByRecursion (λ packet. length packet.bytes ≤ n) packets

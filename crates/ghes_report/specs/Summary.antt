-- The summary of a replay (own choice).
use Rattle.std.specs.Prelude.{ℕ, ◌+◌, List, [], ◌∷◌, ◌++◌, map, length, slice_get, codes, count_by}
use Rattle.std.specs.List.{range_with_len}
use Rattle.std.specs.Fmt.{decimal}
use Rattle.ghes_ledger.specs.declared.summary.SourceSummary.{SourceSummary}
use Rattle.ghes_ledger.specs.declared.summary.Summary.{Summary}
use Rattle.ghes_ledger.specs.Counts.{counts_of, is_no_slot, is_repeat}
use Rattle.ghes_ledger.specs.Kept.{Kept}
use Rattle.ghes_ledger.specs.Outcomes.{is_fault}
use Rattle.ghes_report.specs.Lines.{id_at, id_or}

-- the line of a source, first what went in: how many blocks it raised and had acknowledged
unfoldable pub raised_line : ℕ → ℕ → ℕ → List ℕ
raised_line id raised acknowledged =
    codes "source " ++ decimal id ++ codes ": raised " ++ decimal raised ++ codes ", acknowledged " ++ decimal acknowledged

-- and then what came out: how many were delivered, a duplicate, dropped, and in the panic list
unfoldable pub fates_line : SourceSummary → List ℕ
fates_line fates =
    codes ", delivered " ++ decimal fates.delivered ++ codes ", duplicate " ++ decimal fates.duplicate ++ codes ", dropped "
    ++ decimal fates.dropped ++ codes ", panic " ++ decimal fates.panic ++ codes "\n"

-- the last line: how many reports there are, how many deliveries were repeats, and how many calls found no slot and failed
unfoldable pub totals_line : ℕ → ℕ → ℕ → ℕ → List ℕ
totals_line reports repeats no_slot faults =
    codes "reports " ++ decimal reports ++ codes ", repeats " ++ decimal repeats ++ codes ", no slot " ++ decimal no_slot
    ++ codes ", fault " ++ decimal faults ++ codes "\n"

-- the line of a source
abbrev pub source_text : ℕ → ℕ → ℕ → SourceSummary → List ℕ
source_text id raised acknowledged fates = raised_line id raised acknowledged ++ fates_line fates

-- the lines of the sources from a position on, by the ids, the raised and the acknowledged blocks of all, and the fates of these
abbrev pub sources_from : ℕ → List ℕ → List ℕ → List ℕ → List SourceSummary → List ℕ
sources_from s ids raised acknowledged [] = []
sources_from s ids raised acknowledged (fates ∷ others) =
    source_text (id_at ids s) (id_or (slice_get raised s)) (id_or (slice_get acknowledged s)) fates
    ++ sources_from (s + 1) ids raised acknowledged others

-- The text of a summary, by the ids of its sources and how many blocks each raised and had acknowledged.
abbrev pub summary_text : List ℕ → List ℕ → List ℕ → Summary → List ℕ
summary_text ids raised acknowledged summary =
    codes "summary\n"
    ++ (sources_from 0 ids raised acknowledged summary.sources.items ++ totals_line summary.reports summary.repeats summary.no_slot summary.faults)

-- The text of the summary of a ledger: a line for each source that has an id, with the fates of its blocks, and one for the whole.
abbrev pub ledger_summary : List ℕ → List ℕ → List ℕ → Kept → List ℕ
ledger_summary ids raised acknowledged kept =
    codes "summary\n"
    ++ (sources_from 0 ids raised acknowledged (map (counts_of kept) (range_with_len 0 (length ids)))
    ++ totals_line (length kept.reports) (count_by is_repeat kept.taken) (count_by (λ call. is_no_slot call.reply.outcome) kept.calls)
    (count_by (λ call. is_fault call.reply.outcome) kept.calls))

-- The lines of `run`: source by source the calls, and then the blocks that were taken (own choice).
use Rattle.std.specs.Prelude.{ℕ, ◌==◌, if◌then◌else◌, List, [], ◌++◌, length, codes}
use Rattle.std.specs.List.{flat_map, range_with_len}
use Rattle.std.specs.Fmt.{decimal}
use Rattle.ghes_call.specs.declared.call.Call.{Call}
use Rattle.ghes_ledger.specs.declared.ledger.Report.{Report}
use Rattle.ghes_ledger.specs.declared.ledger.Taken.{Taken}
use Rattle.ghes_ledger.specs.Names.{packet_of}
use Rattle.ghes_report.specs.Lines.{call_text, taken_text}

-- the first line, by how many turns there are
unfoldable pub turns_line : ℕ → List ℕ
turns_line n = codes "run " ++ decimal n ++ codes "\n"

-- the line of a call, where it is on this source
abbrev pub call_on : List ℕ → List Report → ℕ → Call → List ℕ
call_on ids reports s call = if call.source == s then call_text ids reports call else []

-- the lines of a taken block, where it is of this source
abbrev pub taken_on : List ℕ → List Report → ℕ → Taken → List ℕ
taken_on ids reports s entry = if (packet_of entry).source == s then taken_text ids reports entry else []

-- the lines of a source: its calls, and then its taken blocks
abbrev pub lines_on : List ℕ → List Report → List Call → List Taken → ℕ → List ℕ
lines_on ids reports calls taken s = flat_map (call_on ids reports s) calls ++ flat_map (taken_on ids reports s) taken

-- the lines of so many turns, told what came of them: by source in table order
abbrev pub turns_text : List ℕ → List Report → ℕ → List Call → List Taken → List ℕ
turns_text ids reports n calls taken = turns_line n ++ flat_map (lines_on ids reports calls taken) (range_with_len 0 (length ids))

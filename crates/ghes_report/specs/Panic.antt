-- The panic report of a ledger (own choice).
use Rattle.std.specs.Prelude.{ℕ, List, [], ◌∷◌, ◌++◌, codes, Bool, true, false, Option, Some, None}
use Rattle.std.specs.List.{flat_map}
use Rattle.std.specs.Fmt.{decimal}
use Rattle.cper_block.specs.declared.malformed.Malformed.{Malformed as Reason}
use Rattle.ghes_ledger.specs.declared.ledger.PanicEntry.{PanicEntry}
use Rattle.cper_text.specs.Body.{block_text}
use Rattle.ghes_report.specs.Lines.{id_at}
use Rattle.cper_text.specs.Report.{malformed_lines}

-- the first line of a block in the panic report, by the word for what it was
unfoldable pub entry_line : List ℕ → ℕ → ℕ → List ℕ
entry_line word id seq = word ++ codes " source " ++ decimal id ++ codes " block " ++ decimal seq ++ codes "\n"

-- what a block of the panic list was: fatal, or pending
abbrev pub entry_word : Bool → List ℕ
entry_word true = codes "fatal"
entry_word false = codes "pending"

-- the lines of a block in the panic report, behind its first line
abbrev pub entry_body : Option Reason → List ℕ → List ℕ
entry_body None bytes = block_text bytes
entry_body (Some reason) bytes = malformed_lines reason bytes

-- the lines of a block in the panic report
abbrev pub entry_text : List ℕ → PanicEntry → List ℕ
entry_text ids entry = entry_line (entry_word entry.fatal) (id_at ids entry.source) entry.seq ++ entry_body entry.reason entry.bytes

-- The panic report: nothing, where the panic list is empty.
abbrev pub panic_text : List ℕ → List PanicEntry → List ℕ
panic_text ids [] = []
panic_text ids (entry ∷ entries) = codes "panic\n" ++ (flat_map (entry_text ids) (entry ∷ entries) ++ codes "end of panic\n")

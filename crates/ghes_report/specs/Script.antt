-- The text of a replay by its script: a function of the lines, the ledger with its marks, and what is told of each source: its id, the
-- access width of its read ack register, and how many blocks it raised and had acknowledged (own choice).
use Rattle.std.specs.Prelude.{ℕ, List, [], ◌∷◌, ◌++◌}
use Rattle.std.specs.List.{flat_map}
use Rattle.ghes_ledger.specs.declared.ledger.Mark.{Mark}
use Rattle.ghes_ledger.specs.declared.ledger.Report.{Report}
use Rattle.ghes_ledger.specs.Kept.{Kept}
use Rattle.ghes_script.specs.declared.line.Line.{Line}
use Rattle.ghes_report.specs.declared.prints.Prints.{Prints}
use Rattle.ghes_report.specs.declared.prints.Prints.TheVariants as prints
use Rattle.ghes_report.specs.Cell.{width_at, cell_line}
use Rattle.ghes_report.specs.Inject.{injection_line}
use Rattle.ghes_report.specs.Left.{Came, Left, whole, came_of, behind}
use Rattle.ghes_report.specs.Lines.{id_at, call_text, taken_text}
use Rattle.ghes_report.specs.Panic.{panic_text}
use Rattle.ghes_report.specs.Prints.{prints_at}
use Rattle.ghes_report.specs.Summary.{ledger_summary}
use Rattle.ghes_report.specs.Turns.{turns_text}

-- what a line prints of what came of it
abbrev pub printed : List ℕ → List ℕ → List Report → Prints → Came → List ℕ
printed ids widths reports prints.Nothing came = []
printed ids widths reports prints.Calls came = flat_map (call_text ids reports) came.calls
printed ids widths reports prints.Taken came = flat_map (taken_text ids reports) came.taken
printed ids widths reports (prints.Turns n) came = turns_text ids reports n came.calls came.taken
printed ids widths reports (prints.Injection error) came = flat_map (injection_line ids error) came.ends
printed ids widths reports (prints.Cell source) came = flat_map (cell_line (id_at ids source) (width_at widths source)) came.cells

-- the text of the line of a mark, told what is left before it
abbrev pub told_at : List ℕ → List ℕ → Kept → Left → Mark → List ℕ
told_at ids widths kept left mark = printed ids widths kept.reports (prints_at mark left.lines) (came_of kept left mark)

abbrev pub told_from : List ℕ → List ℕ → Kept → Left → List Mark → List ℕ
told_from ids widths kept left [] = []
told_from ids widths kept left (mark ∷ marks) = told_at ids widths kept left mark ++ told_from ids widths kept (behind left mark) marks

-- The lines of a replay: those of each executed line of its script, and of its end.
abbrev pub told_text : List Line → List ℕ → List ℕ → Kept → List ℕ
told_text lines ids widths kept = told_from ids widths kept (whole lines kept) kept.marks

-- The text of a replay: its lines, the panic report, and the summary.
unfoldable pub script_text : List Line → List ℕ → List ℕ → List ℕ → List ℕ → Kept → List ℕ
script_text lines ids widths raised acknowledged kept =
    told_text lines ids widths kept ++ (panic_text ids kept.panic ++ ledger_summary ids raised acknowledged kept)

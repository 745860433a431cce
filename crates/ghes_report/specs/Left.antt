-- What came of a line of a script, and what is left for the lines behind it (own choice).
use Rattle.std.specs.Prelude.{ℕ, List, take, drop}
use Rattle.ghes_call.specs.declared.call.Call.{Call}
use Rattle.ghes_ledger.specs.declared.ledger.InjectionEnd.{InjectionEnd}
use Rattle.ghes_ledger.specs.declared.ledger.Mark.{Mark}
use Rattle.ghes_ledger.specs.declared.ledger.Taken.{Taken}
use Rattle.ghes_ledger.specs.Kept.{Kept}
use Rattle.ghes_script.specs.declared.line.Line.{Line}
use Rattle.ghes_report.specs.declared.prints.Prints.{Prints}
use Rattle.ghes_report.specs.declared.prints.Prints.TheVariants.{Injection, Cell}
use Rattle.ghes_report.specs.Lines.{between}
use Rattle.ghes_report.specs.Prints.{prints_at}

-- what came of a line: its calls, the blocks that were taken, the end of an injection, and a cell that was looked at
pub record Came : Type 0 where
  pub calls : List Call
  pub taken : List Taken
  pub ends : List InjectionEnd
  pub cells : List ℕ

-- what is left behind some lines: the lines, how many calls and taken blocks came before, and the ends and the cells
pub record Left : Type 0 where
  pub lines : List Line
  pub calls : ℕ
  pub taken : ℕ
  pub ends : List InjectionEnd
  pub cells : List ℕ

-- before the first line
abbrev pub whole : List Line → Kept → Left
whole lines kept = record { lines = lines; calls = 0; taken = 0; ends = kept.injections; cells = kept.peeks }

-- what came of the line of a mark: the calls and the taken blocks up to it, and the next end and the next cell
abbrev pub came_of : Kept → Left → Mark → Came
came_of kept left mark = record {
  calls = between left.calls mark.calls kept.calls;
  taken = between left.taken mark.taken kept.taken;
  ends = take 1 left.ends;
  cells = take 1 left.cells;
}

-- the ends that are left behind a line: an injection has one
abbrev pub ends_behind : Prints → List InjectionEnd → List InjectionEnd
ends_behind (Injection error) ends = drop 1 ends
ends_behind _ ends = ends

-- the cells that are left behind a line: a look at one has one
abbrev pub cells_behind : Prints → List ℕ → List ℕ
cells_behind (Cell source) cells = drop 1 cells
cells_behind _ cells = cells

-- what is left behind the line of a mark
abbrev pub behind : Left → Mark → Left
behind left mark = record {
  lines = drop 1 left.lines;
  calls = mark.calls;
  taken = mark.taken;
  ends = ends_behind (prints_at mark left.lines) left.ends;
  cells = cells_behind (prints_at mark left.lines) left.cells;
}

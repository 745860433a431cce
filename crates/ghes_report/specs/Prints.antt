-- What the lines of a script print (own choice).
use Rattle.std.specs.Prelude.{◌==◌, if◌then◌else◌, List, [], ◌∷◌}
use Rattle.ghes_ledger.specs.declared.ledger.Mark.{Mark}
use Rattle.ghes_script.specs.declared.line.Line.{Line}
use Rattle.ghes_script.specs.declared.line.What.{What}
use Rattle.ghes_script.specs.declared.line.What.TheVariants.{Slots, Contexts, Serve, AckCell, Available, Busy, Status, Route, Clock, Raise, Inject, Nmi, Work, Run, Peek, Fail}
use Rattle.ghes_report.specs.declared.prints.Prints.{Prints}
use Rattle.ghes_report.specs.declared.prints.Prints.TheVariants as prints

-- what a line prints, by what it asks for
abbrev pub prints_of : What → Prints
prints_of (Slots n) = prints.Nothing
prints_of (Contexts n) = prints.Nothing
prints_of (Serve source context) = prints.Nothing
prints_of (AckCell source value) = prints.Nothing
prints_of (Available value) = prints.Nothing
prints_of (Busy n) = prints.Nothing
prints_of (Status n) = prints.Nothing
prints_of (Route class source) = prints.Nothing
prints_of (Clock time) = prints.Nothing
prints_of (Raise source block) = prints.Nothing
prints_of (Inject request) = prints.Injection request.error
prints_of (Nmi source) = prints.Calls
prints_of Work = prints.Taken
prints_of (Run n) = prints.Turns n
prints_of (Peek source) = prints.Cell source
prints_of (Fail source n) = prints.Nothing

-- what the next line prints; the end of a script prints what a line `work` does
abbrev pub prints_next : List Line → Prints
prints_next [] = prints.Taken
prints_next (line ∷ lines) = prints_of line.what

-- what is printed at a mark: by the next line, or by the end of the script, whose number is 0
abbrev pub prints_at : Mark → List Line → Prints
prints_at mark lines = if mark.line == 0 then prints.Taken else prints_next lines

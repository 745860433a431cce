-- Refusals as a table: rows of a test and the refusal that it gives, tested in order.
use Rattle.std.specs.Prelude.{Bool, List, [], ◌∷◌, Option, Some, None, if◌then◌else◌}

-- the refusal of the first row whose test holds, none where no test does (own choice)
abbrev pub first_of : {E : Type 0} → List (Bool × E) → Option E
first_of [] = None
first_of (row ∷ rows) = if row.0 then Some row.1 else first_of rows

-- What a HEST says, and why another one is refused (ACPI 6.5, 18.3.2).
use Rattle.std.specs.Prelude.{◌≡◌, ◌≤◌, ℕ, ◌+◌, ◌==◌, nat_lt, if◌then◌else◌, List, [], length, drop, codes, Option, Some, None, Result, Ok, Err}
use Rattle.std.specs.Option.{option_or, option_map}
use Rattle.apei_base.specs.Cut.{joined, CutsInto}
use Rattle.apei_base.specs.Number.{number_at}
use Rattle.apei_base.specs.Table.{IsTable, sdt_refusal}
use Rattle.apei_hest.specs.Refusal.{source_refusal, AreAccepted}
use Rattle.apei_hest.specs.Source.{source_of, sources_from}
use Rattle.apei_hest.specs.Structure.{IsStructure, structure_at, structure_refusal}
use Rattle.apei_hest.specs.declared.error.HestError.{HestError}
use Rattle.apei_hest.specs.declared.error.HestError.TheVariants.{Table, Truncated, CountMismatch}
use Rattle.apei_hest.specs.declared.source.Source.{Source}

-- The bytes are a HEST with these sources: they are a table, whose structures stand one behind another from offset 40 up
-- to its end; none of them is refused, and they are as many as the count at offset 36 says (ACPI 6.5, 18.3.2).
pub record IsHest (bytes : List ℕ) (found : List Source) : Type 0 where
  pub table : IsTable (codes "HEST") bytes
  pub counted : 40 ≤ length bytes
  pub structures : List (List ℕ)
  pub cut : CutsInto IsStructure (drop 40 bytes) structures []
  pub sources : found ≡ sources_from 40 structures
  pub accepted : AreAccepted [] found
  pub as_many : number_at 36 4 bytes ≡ length found

-- why bytes that stand at this offset of a table are refused behind these sources: no whole structure begins them, or
-- its source is refused (own choice)
abbrev pub refusal_at : List Source → ℕ → List ℕ → Option HestError
refusal_at before at bytes =
    option_or (structure_refusal at bytes) (source_refusal before (source_of (structure_at bytes) at))

-- what a whole table answers, by the count that it states
abbrev pub counted : ℕ → List Source → Result (List Source) HestError
counted said found = if said == length found then Ok found else Err (CountMismatch said (length found))

-- a refusal, if there is one, as an answer
abbrev pub refused : Option HestError → Option (Result (List Source) HestError)
refused None = None
refused (Some error) = Some (Err error)

-- what is answered behind these sources, where so many bytes are before the rest: at the end of the table the count
-- decides, and else the rest may be refused; none where one more source follows (own choice)
abbrev pub answer_at : ℕ → List Source → ℕ → List ℕ → Option (Result (List Source) HestError)
answer_at said before at rest =
    if length rest == 0 then Some (counted said before) else refused (refusal_at before at rest)

-- The bytes from offset 40 on are accepted structures, one behind another, up to a rest that decides.
abbrev pub Walks : ℕ → List ℕ → Result (List Source) HestError → Type 0
Walks said bytes answer =
    (structures : List (List ℕ)) × (rest : List ℕ) × CutsInto IsStructure bytes structures rest
    × AreAccepted [] (sources_from 40 structures)
    × (answer_at said (sources_from 40 structures) (40 + length (joined structures)) rest ≡ Some answer)

-- why no structure of the bytes is looked at: they are no table, or end within the count at offset 36 (own choice)
abbrev pub front_refusal : List ℕ → Option HestError
front_refusal bytes =
    option_or (option_map Table (sdt_refusal (codes "HEST") bytes)) (if nat_lt (length bytes) 40 then Some (Truncated 36) else None)

-- the refusal of the front, where it has one, and else what the structures say
abbrev pub JudgedBy : Option HestError → List ℕ → Result (List Source) HestError → Type 0
JudgedBy (Some error) bytes answer = answer ≡ Err error
JudgedBy None bytes answer = Walks (number_at 36 4 bytes) (drop 40 bytes) answer

-- what bytes say as a HEST: its sources, or why they are refused, by the first reason along the table
abbrev pub Judges : List ℕ → Result (List Source) HestError → Type 0
Judges bytes answer = JudgedBy (front_refusal bytes) bytes answer

-- there is something that the bytes say
abbrev pub IsJudged : List ℕ → Type 0
IsJudged bytes = (answer : Result (List Source) HestError) × Judges bytes answer

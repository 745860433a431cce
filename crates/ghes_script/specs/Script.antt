-- What bytes are as a script: its lines, or its first bad line (own choice).
use Rattle.std.specs.Prelude.{◌≡◌, ℕ, ◌+◌, List, [], ◌∷◌, Result, Ok, Err}
use Rattle.ghes_script.specs.Answer.{answer_of}
use Rattle.ghes_script.specs.Cut.{AreLinesOf}
use Rattle.ghes_script.specs.Setup.{Setup}
use Rattle.ghes_script.specs.Sofar.{start, after}
use Rattle.ghes_script.specs.declared.answer.Answer.{Answer}
use Rattle.ghes_script.specs.declared.answer.Answer.TheVariants.{Skipped, Asks, Bad}
use Rattle.ghes_script.specs.declared.error.ScriptError.{ScriptError}
use Rattle.ghes_script.specs.declared.error.ScriptError.TheVariants as errors
use Rattle.ghes_script.specs.declared.error.ScriptKind.{ScriptKind}
use Rattle.ghes_script.specs.declared.line.Line.{Line}
use Rattle.ghes_script.specs.declared.sofar.Sofar.{Sofar}

-- a bad line: its number, from 1 on, and its kind
pub record BadLine : Type 0 where
  pub number : ℕ
  pub kind : ScriptKind

-- lines that are read behind this one
abbrev pub with_line : Line → Result (List Line) BadLine → Result (List Line) BadLine
with_line line (Ok lines) = Ok (line ∷ lines)
with_line line (Err bad) = Err bad

-- What a line of this number adds to what is read behind it: nothing where it is skipped, itself where it asks for
-- something, and where it is bad, nothing is read behind it.
abbrev pub read_line : ℕ → Sofar → Answer → (Sofar → Result (List Line) BadLine) → Result (List Line) BadLine
read_line number sofar Skipped next = next sofar
read_line number sofar (Asks what) next = with_line (record { number = number; what = what }) (next (after sofar what))
read_line number sofar (Bad kind) next = Err (record { number = number; kind = kind })

-- the lines of these texts, numbered from here on, or the first bad one
abbrev pub reads_from : Setup → ℕ → Sofar → List (List ℕ) → Result (List Line) BadLine
reads_from setup number sofar [] = Ok []
reads_from setup number sofar (text ∷ texts) =
    read_line number sofar (answer_of setup sofar text) (λ next. reads_from setup (number + 1) next texts)

-- the lines of all texts, or the first bad one
abbrev pub reads : Setup → List (List ℕ) → Result (List Line) BadLine
reads setup texts = reads_from setup 1 start texts

-- the bytes are a script that asks for these lines
pub record IsScript (setup : Setup) (bytes : List ℕ) (lines : List Line) : Type 0 where
  pub texts : List (List ℕ)
  pub cut : AreLinesOf bytes texts
  pub read : reads setup texts ≡ Ok lines

-- the bytes are no script: this line of them is the first bad one, and this is its kind
pub record IsRefusedAt (setup : Setup) (bytes : List ℕ) (bad : BadLine) : Type 0 where
  pub texts : List (List ℕ)
  pub cut : AreLinesOf bytes texts
  pub read : reads setup texts ≡ Err bad

-- a refusal names the first bad line and its kind, unless memory ran out
abbrev pub Blames : Setup → List ℕ → ScriptError → Type 0
Blames setup bytes (errors.Line number kind) = IsRefusedAt setup bytes (record { number = number; kind = kind })
Blames setup bytes errors.OutOfMemory = Unit {0}

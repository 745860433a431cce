-- A script that is read up to a line: whatever the rest spells completes the lines so far.
use Rattle.std.proofs.Common.{◌≡◌, ◌<◌, ℕ, ◌+◌, List, [], ◌∷◌, ◌++◌, length, Result, Ok, Err, refl, sym, ap, subst, ◌∙◌, append_assoc, append-nil}
use Rattle.ghes_script.specs.declared.answer.Answer.{Answer}
use Rattle.ghes_script.specs.declared.answer.Answer.TheVariants.{Skipped, Asks, Bad}
use Rattle.ghes_script.specs.declared.error.ScriptKind.{ScriptKind}
use Rattle.ghes_script.specs.declared.line.Line.{Line}
use Rattle.ghes_script.specs.declared.line.What.{What}
use Rattle.ghes_script.specs.declared.sofar.Sofar.{Sofar}
use Rattle.ghes_script.specs.Answer.{answer_of}
use Rattle.ghes_script.specs.Cut.{IsCutAt, AreLinesOf}
use Rattle.ghes_script.specs.Setup.{Setup}
use Rattle.ghes_script.specs.Script.{BadLine, with_line, read_line, reads_from, reads, IsScript, IsRefusedAt}
use Rattle.ghes_script.specs.Sofar.{start, after}
use Rattle.ghes_script.proofs.CutLemmas.{lines_of, are_lines}

-- lines in front of what is read
abbrev pub with_lines : List Line → Result (List Line) BadLine → Result (List Line) BadLine
with_lines lines (Ok more) = Ok (lines ++ more)
with_lines lines (Err bad) = Err bad

-- the bytes are some lines, and with these lines in front, what is read of the texts is what is read of the bytes
pub record Completes (setup : Setup) (bytes : List ℕ) (lines : List Line) (read : Result (List Line) BadLine) : Type 0 where
  pub all : List (List ℕ)
  pub cut : AreLinesOf bytes all
  pub same : reads setup all ≡ with_lines lines read

-- the lines so far, and what they mean for the next ones, up to the rest
pub record Scans (setup : Setup) (bytes : List ℕ) (lines : List Line) (sofar : Sofar) (number : ℕ) (rest : List ℕ) : Type 0 where
  pub completes : (texts : List (List ℕ)) → AreLinesOf rest texts → Completes setup bytes lines (reads_from setup (number + 1) sofar texts)

-- nothing is read yet
pub scans_none : (setup : Setup) (bytes : List ℕ) (lines : List Line) → lines ≡ [] → Scans setup bytes lines start 0 bytes
scans_none setup bytes lines none =
    let S : List Line → Type 0 = λ xs. Scans setup bytes xs start 0 bytes in
    subst S (sym none) (record { completes = λ texts cut. record { all = texts; cut = cut; same = whole (reads setup texts) } }) where
      whole : (read : Result (List Line) BadLine) → read ≡ with_lines [] read
      whole (Ok more) = refl
      whole (Err bad) = refl

-- what is completed is determined by what is read
completes_as : (setup : Setup) (bytes : List ℕ) (lines others : List Line) (read read' : Result (List Line) BadLine) → with_lines lines read ≡ with_lines others read' → Completes setup bytes lines read → Completes setup bytes others read'
completes_as setup bytes lines others read read' e completes = record { all = completes.all; cut = completes.cut; same = completes.same ∙ e }

-- what a line answers, by another name of what is read for
pub answered : (setup other : Setup) (sofar : Sofar) (text : List ℕ) (answer known : Answer) → answer ≡ known → setup ≡ other → answer ≡ answer_of setup sofar text → known ≡ answer_of other sofar text
answered setup other sofar text answer known is same e = sym is ∙ e ∙ ap (λ s. answer_of s sofar text) same

-- a line more that is skipped
pub scans_skipped : (setup : Setup) (bytes : List ℕ) (lines : List Line) (sofar : Sofar) (number : ℕ) (rest text after_it : List ℕ)
    → 0 < length rest → IsCutAt 10 rest text after_it → Skipped ≡ answer_of setup sofar text → Scans setup bytes lines sofar number rest
    → Scans setup bytes lines sofar (number + 1) after_it
scans_skipped setup bytes lines sofar number rest text after_it some is e scans = record {
  completes = λ texts cut.
      let next : Sofar → Result (List Line) BadLine = λ s. reads_from setup (number + 1 + 1) s texts in
      completes_as setup bytes lines lines _ _ (ap (λ a. with_lines lines (read_line (number + 1) sofar a next)) (sym e)) (scans.completes (text ∷ texts) (some, after_it, is, cut));
}

-- a line more that asks for something
pub scans_asks : (setup : Setup) (bytes : List ℕ) (lines : List Line) (sofar : Sofar) (number : ℕ) (what : What) (rest text after_it : List ℕ)
    → 0 < length rest → IsCutAt 10 rest text after_it → Asks what ≡ answer_of setup sofar text → Scans setup bytes lines sofar number rest
    → Scans setup bytes (lines ++ record { number = number + 1; what = what } ∷ []) (after sofar what) (number + 1) after_it
scans_asks setup bytes lines sofar number what rest text after_it some is e scans = record {
  completes = λ texts cut.
      let next : Sofar → Result (List Line) BadLine = λ s. reads_from setup (number + 1 + 1) s texts in
      completes_as setup bytes lines (lines ++ line ∷ []) _ _ (ap (λ a. with_lines lines (read_line (number + 1) sofar a next)) (sym e) ∙ moved (next (after sofar what))) (scans.completes (text ∷ texts) (some, after_it, is, cut));
} where
  line : Line
  line = record { number = number + 1; what = what }

  moved : (read : Result (List Line) BadLine) → with_lines lines (with_line (record { number = number + 1; what = what }) read) ≡ with_lines (lines ++ record { number = number + 1; what = what } ∷ []) read
  moved (Ok more) = ap Ok (sym (append_assoc lines (record { number = number + 1; what = what } ∷ []) more))
  moved (Err bad) = refl

-- a line more that is bad
pub scans_bad : (setup : Setup) (bytes : List ℕ) (lines : List Line) (sofar : Sofar) (number : ℕ) (kind : ScriptKind) (rest text after_it : List ℕ)
    → 0 < length rest → IsCutAt 10 rest text after_it → Bad kind ≡ answer_of setup sofar text → Scans setup bytes lines sofar number rest
    → IsRefusedAt setup bytes (record { number = number + 1; kind = kind })
scans_bad setup bytes lines sofar number kind rest text after_it some is e scans =
    let texts : List (List ℕ) = lines_of after_it in
    let next : Sofar → Result (List Line) BadLine = λ s. reads_from setup (number + 1 + 1) s texts in
    let whole = scans.completes (text ∷ texts) (some, after_it, is, are_lines after_it) in
    record { texts = whole.all; cut = whole.cut; read = whole.same ∙ ap (λ a. with_lines lines (read_line (number + 1) sofar a next)) (sym e) }

-- no line more
pub scans_end : (setup : Setup) (bytes : List ℕ) (lines : List Line) (sofar : Sofar) (number : ℕ) (rest : List ℕ) → rest ≡ [] → Scans setup bytes lines sofar number rest → IsScript setup bytes lines
scans_end setup bytes lines sofar number rest none scans =
    let whole = scans.completes [] none in
    record { texts = whole.all; cut = whole.cut; read = whole.same ∙ ap Ok (append-nil lines) }

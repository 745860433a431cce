-- A script is read in one way.
use Rattle.std.proofs.Common.{◌≡◌, ℕ, List, Result, Ok, Err, ◌⊎◌, inl, inr, refl, sym, ap, ◌∙◌}
use Rattle.ghes_script.specs.Cut.{AreLinesOf}
use Rattle.ghes_script.specs.Script.{BadLine, reads, IsScript, IsRefusedAt}
use Rattle.ghes_script.specs.Setup.{Setup}
use Rattle.ghes_script.specs.declared.line.Line.{Line}
use Rattle.ghes_script.proofs.CutLemmas.{lines_of, are_lines, same_texts}

-- what is read of bytes is determined
one_read : (setup : Setup) (bytes : List ℕ) (texts others : List (List ℕ)) (read other : Result (List Line) BadLine) → AreLinesOf bytes texts → AreLinesOf bytes others → reads setup texts ≡ read → reads setup others ≡ other → read ≡ other
one_read setup bytes texts others read other cut cut' e e' = sym e ∙ ap (reads setup) (same_texts bytes texts others cut cut') ∙ e'

pub same_lines : (setup : Setup) (bytes : List ℕ) (lines others : List Line) → IsScript setup bytes lines → IsScript setup bytes others → lines ≡ others
same_lines setup bytes lines others one other =
    let e = one_read setup bytes one.texts other.texts (Ok lines) (Ok others) one.cut other.cut one.read other.read in
    cc

pub one_refusal : (setup : Setup) (bytes : List ℕ) (bad worse : BadLine) → IsRefusedAt setup bytes bad → IsRefusedAt setup bytes worse → bad ≡ worse
one_refusal setup bytes bad worse one other =
    let e = one_read setup bytes one.texts other.texts (Err bad) (Err worse) one.cut other.cut one.read other.read in
    cc

pub not_both : (setup : Setup) (bytes : List ℕ) (lines : List Line) (bad : BadLine) → IsScript setup bytes lines → IsRefusedAt setup bytes bad → ⊥
not_both setup bytes lines bad one other =
    let e = one_read setup bytes one.texts other.texts (Ok lines) (Err bad) one.cut other.cut one.read other.read in
    cc

pub either : (setup : Setup) (bytes : List ℕ) → ((lines : List Line) × IsScript setup bytes lines) ⊎ ((bad : BadLine) × IsRefusedAt setup bytes bad)
either setup bytes = by_read (reads setup (lines_of bytes)) refl where
  by_read : (read : Result (List Line) BadLine) → reads setup (lines_of bytes) ≡ read → ((lines : List Line) × IsScript setup bytes lines) ⊎ ((bad : BadLine) × IsRefusedAt setup bytes bad)
  by_read (Ok lines) e = inl (lines, record { texts = lines_of bytes; cut = are_lines bytes; read = e })
  by_read (Err bad) e = inr (bad, record { texts = lines_of bytes; cut = are_lines bytes; read = e })

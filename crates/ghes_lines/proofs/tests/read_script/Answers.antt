use Rattle.std.proofs.Common.{◌≡◌, ◌∙◌, ℕ, List, length, refl, sym}
use Rattle.std.specs.List.{AllByRecursion}
use Rattle.ghes_script.specs.Script.{IsScript}
use Rattle.ghes_script.specs.Setup.{Setup}
use Rattle.ghes_script.specs.Sofar.{start}
use Rattle.ghes_script.specs.Sound.{AreAllowed}
use Rattle.ghes_script.specs.declared.line.Line.{Line}
use Rattle.ghes_desk.proofs.OutcomeLemmas.{ok_more}
use Rattle.ghes_lines.proofs.ScriptLemmas.{lines_are}
use Rattle.ghes_lines.specs.Lines.{IsAllowed}
use Rattle.ghes_lines.specs.declared.machine.Machine.{Machine}
use Rattle.ghes_lines.proofs.tests.read_script.Goals as goal

-- what a script for three sources asks for is allowed over three
allowed_over : ((setup : Setup) (bytes : List ℕ) (lines : List Line) → IsScript setup bytes lines → AreAllowed setup start lines) → (setup : Setup) (bytes : List ℕ) (lines : List Line) → IsScript setup bytes lines → length setup.names ≡ 3 → (machine : Machine) → length machine.sources.items ≡ 3 → AllByRecursion (λ line. IsAllowed machine line.what) lines
allowed_over law setup bytes lines is names machine three = lines_are setup machine start lines (names ∙ sym three) (law setup bytes lines is)

pub returns : goal.returns
returns c =
    ok_more _ _ c.read.result
    (λ script is. allowed_over c.each_line_of_a_script_is_allowed.ensures _ c.args.text.now script is refl)
    c.read.ensures.found

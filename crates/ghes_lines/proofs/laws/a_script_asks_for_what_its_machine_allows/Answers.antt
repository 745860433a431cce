use Rattle.ghes_script.specs.Sofar.{start}
use Rattle.ghes_lines.proofs.ScriptLemmas.{lines_are}
use Rattle.ghes_lines.proofs.laws.a_script_asks_for_what_its_machine_allows.Goals as goal

pub returns : goal.returns
returns c = λ setup machine lines same all. lines_are setup machine start lines same all

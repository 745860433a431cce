use Rattle.ghes_script.proofs.SoundLemmas.{script_allowed}
use Rattle.ghes_script.proofs.laws.each_line_of_a_script_is_allowed.Goals as goal

pub returns : goal.returns
returns c = script_allowed

use Rattle.ghes_script.specs.Sofar.{start}
use Rattle.ghes_script.proofs.SoundLemmas.{script_allowed, settings_first, does_not_fall}
use Rattle.ghes_script.proofs.laws.a_script_comes_in_order.Goals as goal

pub returns-clause-settings : goal.returns-clause-settings
returns-clause-settings c = λ setup bytes lines script. settings_first setup start lines (script_allowed setup bytes lines script)

pub returns-clause-times : goal.returns-clause-times
returns-clause-times c = λ setup bytes lines script. does_not_fall setup start lines (script_allowed setup bytes lines script)

use Rattle.ghes_script.proofs.InjectLemmas.{injection_of}
use Rattle.ghes_script.proofs.inject.injection.Goals as goal

pub returns : goal.returns
returns c = injection_of c.args.error c.args.place _

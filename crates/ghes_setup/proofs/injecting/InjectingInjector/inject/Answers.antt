use Rattle.ghes_setup.proofs.InjectLemmas.{is_injected}
use Rattle.ghes_setup.proofs.injecting.InjectingInjector.inject.Goals as goal

pub returns-clause-made : goal.returns-clause-made
returns-clause-made c =
    is_injected c.args.self.now.sources _ c.args.request.now _ _ c.inject_by.result c.an_injected_block_is_well_formed.ensures.raised c.inject_by.ensures

use Rattle.std.proofs.Common.{◌≡◌, get_or, refl, ◌∙◌, ap, subst}
use Rattle.apei_base.proofs.FirmwareLemmas.{on_ok}
use Rattle.fw_port.specs.Port.{seen, raised, KeepsAccesses}
use Rattle.fw_port.specs.declared.port.SourcePort.{SourcePort}
use Rattle.fw_sim.proofs.SoundLemmas.{any_none}
use Rattle.fw_sim.proofs.raising.raise_at.Goals as goal

pub returns-clause-ok : goal.returns-clause-ok
returns-clause-ok c =
    let ports = c.args.ports.now.items in
    let here : (none : SourcePort) → c.index_mut.result.now ≡ get_or ports c.args.source none =
    λ none. c.index_mut.ensures.value ∙ any_none ports c.args.source _ none c.requires.within in
    on_ok c.raise.result (seen c.raise.new.self ≡ raised c.args.block.now (seen c.index_mut.result.now)) _ (λ is. record {
      within = c.requires.within;
      port = c.raise.new.self;
      ports = refl;
      seen_is = λ none. is ∙ ap (λ (port : SourcePort). raised c.args.block.now (seen port)) (here none);
      kept = λ none. subst (λ (port : SourcePort). KeepsAccesses port c.raise.new.self) (here none) c.raise.ensures.kept;
    }) c.raise.ensures.ok

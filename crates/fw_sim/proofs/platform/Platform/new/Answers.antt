use Rattle.std.proofs.Common.{[], ◌≡◌, ◌∙◌, ap, sym, subst}
use Rattle.std.specs.List.{AllByRecursion}
use Rattle.apei_hest.specs.Refusal.{enabled}
use Rattle.apei_hest.specs.Sound.{IsSound}
use Rattle.apei_hest.proofs.SoundLemmas.{accepted_sound}
use Rattle.fw_sim.specs.Platform.{ArePortsOf}
use Rattle.fw_sim.proofs.platform.Platform.new.Goals as goal

pub ports_of-requires-clause-sound : goal.ports_of-requires-clause-sound
ports_of-requires-clause-sound c =
    subst (AllByRecursion IsSound) (sym (c.deref.ensures.value ∙ c.in_ok-sources.ensures ∙ ap enabled c.sources.ensures.list))
    (accepted_sound [] c.args.hest.now c.sources.ensures.accepted)

pub returns-clause-found : goal.returns-clause-found
returns-clause-found c =
    let sources_are : c.deref.result.now ≡ enabled c.args.hest.now = c.deref.ensures.value ∙ c.in_ok-sources.ensures ∙ ap enabled c.sources.ensures.list in
    record {
      map = c.in-Ok.map;
      is_map = c.in-Ok.ensures.found;
      ports = subst (λ sources. ArePortsOf sources c.in-Ok.map.areas.items c.in_ok-ports_of.field-0.items) sources_are
          (subst (λ areas. ArePortsOf c.deref.result.now areas c.in_ok-ports_of.field-0.items) c.deref-2.ensures.value c.in_ok-ports_of.ensures);
      injector = c.in_ok-injector_of.ensures;
    }

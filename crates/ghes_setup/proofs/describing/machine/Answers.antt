use Rattle.std.proofs.Common.{◌≡◌, ◌<◌, length, sym, ap, subst, ◌∙◌, arith}
use Rattle.std.proofs.lemmas.List.{length-map}
use Rattle.std.specs.List.{AllByRecursion}
use Rattle.apei_hest.specs.Refusal.{enabled}
use Rattle.ghes_lines.specs.Machine.{FitsSource}
use Rattle.ghes_lines.specs.declared.machine.Machine.{Machine}
use Rattle.ghes_setup.specs.Machine.{AreSourcesOf, name_of, setup_for}
use Rattle.ghes_setup.specs.Settings.{contexts_of, settings_of}
use Rattle.ghes_setup.proofs.MachineLemmas.{all_fit, some_of}
use Rattle.ghes_setup.proofs.describing.machine.Goals as goal

pub sources_of-requires-clause-some : goal.sources_of-requires-clause-some
sources_of-requires-clause-some c =
    subst (λ n. 0 < n) (sym (c.contexts-contexts.ensures ∙ ap contexts_of c.settings_of-settings.ensures)) (some_of (enabled c.args.hest.now) c.args.lines.now c.requires.allowed)

pub returns-clause-sound : goal.returns-clause-sound
returns-clause-sound c =
    let found = enabled c.args.hest.now in
    let items = c.in_ok-sources_of.field-0.items in
    let found_is : c.deref.result.now ≡ found = c.deref.ensures.value ∙ c.in_ok-found.ensures ∙ ap enabled c.sources.ensures.list in
    let are : AreSourcesOf (settings_of c.args.lines.now) found items =
    subst (λ f. AreSourcesOf (settings_of c.args.lines.now) f items) found_is (subst (λ s. AreSourcesOf s c.deref.result.now items) c.settings_of-settings.ensures c.in_ok-sources_of.ensures) in
    let contexts_are : c.contexts-contexts.result ≡ contexts_of (settings_of c.args.lines.now) = c.contexts-contexts.ensures ∙ ap contexts_of c.settings_of-settings.ensures in
    let few = c.accepted_sources_are_sound.ensures.few c.args.hest.now c.sources.ensures.accepted in
    record {
      few = omega (arith, few, are.as_many);
      sources = subst (λ n. AllByRecursion (FitsSource n 65536) items) (sym contexts_are)
          (all_fit found c.args.lines.now items c.requires.allowed (c.accepted_sources_are_sound.ensures.sound c.args.hest.now c.sources.ensures.accepted) are);
    }

pub returns-clause-allowed : goal.returns-clause-allowed
returns-clause-allowed c =
    let found = enabled c.args.hest.now in
    let items = c.in_ok-sources_of.field-0.items in
    let found_is : c.deref.result.now ≡ found = c.deref.ensures.value ∙ c.in_ok-found.ensures ∙ ap enabled c.sources.ensures.list in
    let long : length items ≡ length found = c.in_ok-sources_of.ensures.as_many ∙ ap length found_is in
    let made : Machine = record { sources = c.in_ok-sources_of.field-0; contexts = c.contexts-contexts.result; slots = c.slots.result } in
    c.a_script_asks_for_what_its_machine_allows.ensures (setup_for found c.requires.allowed.0) made c.args.lines.now (length-map found name_of ∙ sym long) c.requires.allowed.1
